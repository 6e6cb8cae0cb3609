-- Painting ends within its turns on every input, with no premises: it is refused, or every queued commit is STALE. The weight, what is
-- queued and the marks that the named ids lack, falls with each turn and is at most the turns allowed.
-- Assumes nothing.
use Rattle.std.specs.Prelude.{None, Option, Some}
use mathlib.Core.Path.{◌≡◌, refl}
use Prim.Native.Nat.{ℕ, zero, suc, ◌+◌, ◌*◌, ◌≤◌}
use mathlib.Core.Bool.{Bool, true, false, cond}
use mathlib.Core.List.Memᴰ
use mathlib.Core.List.{List, [], ◌∷◌}
use native.Mathlib.Omega.{arith}
use lib.ListN.{length, length-append}
use lib.IntN.{ℤ}
use Rattle.hash.specs.Bytes.{Id, if_some}
use Rattle.object.specs.Header.{Header}
use Rattle.commitgraph.specs.Graph.{graph_count}
use Rattle.walk.specs.declared.Refusal.TheVariants.{CommitUnreadable, TooManyParents}
use Rattle.walk.specs.Lookup.{World, Row, no_row, corrupt, row, fail, good, from_store, read_row, read, parents_of, Pair, no_generation}
use Rattle.walk.specs.State.{ids, State}
use Rattle.walk.specs.Opening.{Input, walk_of, P, open_walk, opened, width_in}
use Rattle.walk.specs.Painting.{Paint, Painting, stop, going, then, turn, turns, fresh, paint, mark_all, sorted, unpainted, VISIBLE, HIDDEN}
use Rattle.walk.specs.Universe.{store_parents, row_ids, names}
use Rattle.walk.specs.Reach.{Mem}
use Rattle.hash.proofs.Tests.{by_cases, clash}
use Rattle.walk.proofs.Painting.{kids}
use Rattle.walk.proofs.Fuel.{fresh-none, weight, turn_weight, total_bound, mark_all_length, length_sorted}
use Rattle.walk.proofs.Files.{store_parents_length}
use Rattle.walk.proofs.Rows.{row_ids_length}
use Rattle.walk.proofs.Whole.{accepted, open_fresh, names-rows, names-store, length_list}
use Rattle.walk.proofs.Outside.{length_ids}
use Rattle.walk.proofs.Tips.{open_accepted}

abbrev pub Over : Painting → Type 0
Over (stop n) = Unit {0}
Over (going st) = fresh st.stale st.pending ≡ false

module _ (w : World) (us : List Id) (within : (x p : Id) → Mem p (kids w x) → Mem p us) where
  onward : (k : ℕ) (st : Paint) → ((st' : Paint) → weight us st' ≤ k → Over (turns w k st')) → weight us st ≤ suc k
      → (q : List (Pair × Id)) → st.pending ≡ q → fresh st.stale q ≡ true → (r : Painting) → turn w st q ≡ r → Over (then r (λ st'. turns w k st'))
  unfolding fresh then
  onward k st rec le [] is h r e = clash h refl
  onward k st rec le (q ∷ qs) is h (stop n) e = tt
  onward k st rec le (q ∷ qs) is h (going st') e = rec st' (omega (arith, turn_weight w us st st' q qs is (λ x m. within q.1 x m) e))

  pub turns-over : (k : ℕ) (st : Paint) → weight us st ≤ k → Over (turns w k st)
  unfolding turns weight
  turns-over zero st le = fresh-none st.stale st.pending (omega arith)
  turns-over (suc k) st le =
      by_cases (fresh st.stale st.pending)
      (λ h. rw h (onward k st (λ st' l. turns-over k st' l) le st.pending refl h (turn w st st.pending) refl))
      (λ h. rw h h)

  pub paint-over : (k : ℕ) (waiting hidden : List Id) → 3 * length us + length waiting + length hidden ≤ k → Over (paint w k waiting hidden)
  unfolding paint then weight
  paint-over k waiting hidden le = first (mark_all w VISIBLE (sorted waiting) unpainted) refl
    where
      second : (st : Paint) → length st.pending ≡ length waiting → (r : Painting) → mark_all w HIDDEN hidden st ≡ r → Over (then r (λ st'. turns w k st'))
      second st n (stop m) e = tt
      second st n (going st') e = turns-over k st' (omega (arith, total_bound st' us, mark_all_length w HIDDEN hidden st st' e))

      first : (r : Painting) → mark_all w VISIBLE (sorted waiting) unpainted ≡ r → Over (then r (λ st. then (mark_all w HIDDEN hidden st) (λ st'. turns w k st')))
      first (stop m) e = tt
      first (going st) e = second st (omega (arith, mark_all_length w VISIBLE (sorted waiting) unpainted st e, length_sorted waiting)) (mark_all w HIDDEN hidden st) refl

-- ---- of an input

kids_body : (i : Input) (x p : Id) (o : Option Header) → (walk_of i).world.store x ≡ o → Mem p (parents_of (from_store o)) → Mem p (names i)
unfolding from_store parents_of
kids_body i x p None e m = absurd (Memᴰ.not-nil m)
kids_body i x p (Some h) e m = names-store i x p h e (go h.tree h.crowded h.author h.seconds m)
  where
    go : (t c a : Bool) (s : Option ℤ) → Mem p (parents_of (cond t (cond c (fail TooManyParents) (cond a (if_some s (fail CommitUnreadable) (λ u. good h.ids (record { generation = no_generation; time = u }))) (fail CommitUnreadable))) (fail CommitUnreadable))) → Mem p h.ids
    go true true a s k = absurd (Memᴰ.not-nil k)
    go true false true None k = absurd (Memᴰ.not-nil k)
    go true false true (Some u) k = k
    go true false false s k = absurd (Memᴰ.not-nil k)
    go false c a s k = absurd (Memᴰ.not-nil k)

kids_row : (i : Input) (x p : Id) (r : Row) → (walk_of i).world.graph x ≡ r → Mem p (parents_of (read_row (walk_of i).world x r)) → Mem p (names i)
unfolding read_row parents_of
kids_row i x p no_row e m = kids_body i x p ((walk_of i).world.store x) refl m
kids_row i x p corrupt e m = absurd (Memᴰ.not-nil m)
kids_row i x p (row ps l s) e m = names-rows i x p ps l s e m

pub kids_named : (i : Input) (x p : Id) → Mem p (kids (walk_of i).world x) → Mem p (names i)
unfolding read
kids_named i x p m = kids_row i x p ((walk_of i).world.graph x) refl m

turns_suffice : (i : Input) (st : State) → open_walk i true ≡ opened st → 3 * length (names i) + length (ids st.queue) + length (walk_of i).hidden ≤ (walk_of i).fuel
unfolding walk_of P
turns_suffice i st e =
    let f = open_fresh i st e in
    let a = accepted i (open_accepted i st e) in
    omega (
      arith,
      f.short,
      length-append (store_parents (width_in i) i.store) (row_ids (width_in i) i.graph (graph_count i.graph)),
      row_ids_length (width_in i) i.graph (graph_count i.graph),
      store_parents_length (width_in i) i.store a.store_ok,
      length_list (width_in i) i.tips,
      length_list (width_in i) i.hidden,
      length_ids st.queue,
    )

-- the turns that an opening allows suffice
pub painting_ends : (i : Input) (st : State) → open_walk i true ≡ opened st → Over (paint (walk_of i).world (walk_of i).fuel (ids st.queue) (walk_of i).hidden)
painting_ends i st e = paint-over (walk_of i).world (names i) (kids_named i) (walk_of i).fuel (ids st.queue) (walk_of i).hidden (turns_suffice i st e)
