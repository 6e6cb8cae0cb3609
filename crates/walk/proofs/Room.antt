-- P places suffice, at every call: the ids that wait are different and lie in the universe, so do the seen and the frontier; and an id is admitted
-- as a tip, or as a parent that was not seen, so that the admitted and the unseen parents together never grow.
-- Assumes nothing.
use Rattle.std.specs.Prelude.{None, Some}
use mathlib.Core.Path.{◌≡◌, refl, sym, subst}
use mathlib.Core.Logic.{⊎_elim}
use Prim.Native.Nat.{ℕ, zero, suc, ◌+◌, ◌≤◌}
use mathlib.Core.Bool.{Bool, true, ◌||◌}
use mathlib.Core.List.Memᴰ
use mathlib.Core.List.{List, [], ◌∷◌, ◌++◌, map}
use native.Mathlib.Omega.{arith}
use lib.ListN.{length, length-append}
use lib.IntN.{ℤ}
use Rattle.hash.specs.Bytes.{Id}
use Rattle.object.specs.Header.{Header}
use Rattle.commitgraph.specs.Graph.{graph_count}
use Rattle.walk.specs.Settings.{followed}
use Rattle.walk.specs.Lookup.{row}
use Rattle.walk.specs.State.{Walk, State, ids, with_queue, waits, sees}
use Rattle.walk.specs.Opening.{Input, walk_of, list_ids, P, refusal, distinct, Opening, opened, open_walk, width_in}
use Rattle.walk.specs.Next.{Step, step, admits, visit, visit_all, dropped, back, with_seconds, painted_with, next}
use Rattle.walk.specs.Calls.{state_of, state_after}
use Rattle.walk.specs.Universe.{store_parents, row_ids, names, universe}
use Rattle.walk.specs.Reach.{Mem, NoDup}
use Rattle.walk.specs.AnyInput.{handed_by, Fits, AllFit}
use Rattle.hash.proofs.Tests.{by_cases}
use Rattle.walk.proofs.Laws.{or_neither}
use Rattle.walk.proofs.Take.{followed_sub, followed_map, mem_map, with_seconds_lem}
use Rattle.walk.proofs.Open.{distinct-length}
use Rattle.walk.proofs.Named.{fits}
use Rattle.walk.proofs.Files.{store_parents_length}
use Rattle.walk.proofs.Rows.{row_ids_length}
use Rattle.walk.proofs.Whole.{accepted, length_list, names-rows, names-store}
use Rattle.walk.proofs.Moves.{Takes, nothing, absent, from-store, from_row, drops, Moves, later, unhidden, strikes, stops, moves}
use Rattle.walk.proofs.Tips.{open_keep}
use Rattle.walk.proofs.Once.{HeldBy, at-queue, visit-held, out-held, back-held, part_held, next-held, open_held}
use Rattle.walk.proofs.Universe.{Named, rest-named, dropped-named, painted-named, visit-named, next-named, universe_length, name_in, row_in, body_in, hidden_in, kid_in, open_named}
use Rattle.walk.proofs.Visits.{unseen, unseen_le, unseen_lt, unseen_bound}
use Rattle.walk.proofs.Outside.{length_ids}
use Rattle.walk.proofs.Tips.{open_accepted}

-- ---- the admitted

-- admitted, and not seen among us
unfoldable pub owed : List Id → State → ℕ
owed us st = st.admitted + unseen st.seen us

module _ (v : Walk) (us : List Id) where
  pub visit-owed : (st : State) (p : Id) (t : ℤ) → Mem p us → owed us (visit v st p t) ≤ owed us st
  unfolding visit waits sees owed
  visit-owed st p t m =
      by_cases (st.frontier p || st.seen p)
      (λ e. rw e (omega arith))
      (λ e. by_cases (admits v p t)
      (λ a. rw (e, a) (omega (arith, unseen_lt st.seen p us (or_neither (st.frontier p) (st.seen p) e).1 m)))
      (λ a. rw (e, a) (omega (arith, unseen_le st.seen p us))))

  visitAll-owed : (ps : List (Id × ℤ)) (st : State) → ((p : Id × ℤ) → Mem p ps → Mem p.0 us) → owed us (visit_all v st ps) ≤ owed us st
  unfolding visit_all
  visitAll-owed [] st i = omega arith
  visitAll-owed (p ∷ ps) st i =
      omega (arith, visitAll-owed ps (visit v st p.0 p.1) (λ q k. i q (Memᴰ.tail k)), visit-owed st p.0 p.1 (i p (Memᴰ.head refl)))

  module _ (in_rows : (x p : Id) (ps : List (Id × ℤ)) (l : ℕ) (s : ℤ) → v.world.graph x ≡ row ps l s → Mem p (map (λ q. q.0) ps) → Mem p us)
      (in_store_lem : (x p : Id) (h : Header) → v.world.store x ≡ Some h → Mem p h.ids → Mem p us) where
    takes-owed : {st : State} {r : Step} → Takes v st r → owed us r.state ≤ owed us st
    unfolding step with_queue dropped owed
    takes-owed (nothing e) = omega arith
    takes-owed (absent x q e k) = omega arith
    takes-owed {st} (from-store x q h e k) =
        let f = followed v.settings h.ids in
        visitAll-owed (with_seconds v f) (with_queue q st) (λ p j. in_store_lem x.0 p.0 h k (followed_sub v.settings p.0 h.ids (with_seconds_lem v f p j).0))
    takes-owed {st} (from_row x q ps generation s e k) =
        let f = followed v.settings ps in
        visitAll-owed f (with_queue q st) (λ p m. in_rows x.0 p.0 ps generation s k
        (followed_sub v.settings p.0 (map (λ (q : Id × ℤ). q.0) ps)
        (rw (followed_map v.settings (λ (q : Id × ℤ). q.0) ps) at (mem_map (λ (q : Id × ℤ). q.0) p f m))))
    takes-owed (drops x q e t) = takes-owed t

    moves-owed : {st : State} {r : Step} → Moves v st r → owed us r.state ≤ owed us st
    unfolding step painted_with owed
    moves-owed (later u t) = takes-owed t
    moves-owed (unhidden u t) = takes-owed t
    moves-owed (strikes p u e t) = takes-owed t
    moves-owed (stops n u e) = omega arith

    pub next-owed : (st : State) → owed us (next v st).state ≤ owed us st
    next-owed st = moves-owed (moves v st)

-- ---- of an input

-- what P places need of a state; it holds after every call, and each visit within one keeps it
pub record Roomy (i : Input) (st : State) : Type 0 where
  pub out : List Id
  pub held : HeldBy st out
  pub named : Named (universe i) st
  pub counted : owed (names i) st ≤ P i

pub roomy-fits : (i : Input) → refusal i ≡ None → (st : State) → Roomy i st → Fits (P i) st
unfolding owed
roomy-fits i e st r =
    let u : length (universe i) ≤ P i = universe_length i e in
    let c : st.admitted + unseen st.seen (names i) ≤ P i = r.counted in
    record {
      queue-fits = omega (arith, fits (ids st.queue) (universe i) r.held.once r.named.queue_in, length_ids st.queue);
      admitted-fits = omega arith;
      names-fit = λ l d k. omega (arith, fits l (universe i) d (λ x m. ⊎_elim (r.named.seen_in x) (r.named.front_in x) (k x m)));
    }

pub visit-roomy : (i : Input) (st : State) (p : Id) (t : ℤ) → Mem p (names i) → Roomy i st → Roomy i (visit (walk_of i) st p t)
visit-roomy i st p t m r = record {
  out = r.out;
  held = visit-held (walk_of i) st p t r.out r.held;
  named = visit-named (walk_of i) (universe i) st p t (name_in i p m) r.named;
  counted = omega (arith, visit-owed (walk_of i) (names i) st p t m, r.counted);
}

-- the first of the queue is taken out
pub pop_roomy : (i : Input) (st : State) (x : Id × ℤ) (q : List (Id × ℤ)) → st.queue ≡ x ∷ q → Roomy i st → Roomy i (with_queue q st)
unfolding with_queue owed
pop_roomy i st x q e r = record {
  out = x.0 ∷ r.out;
  held = out-held x q st.seen r.out (at-queue e r.held);
  named = rest-named (walk_of i) (universe i) x q e r.named;
  counted = r.counted;
}

-- it goes back, and the graph is dropped
pub dropped-roomy : (i : Input) (st : State) (x : Id × ℤ) (q : List (Id × ℤ)) → st.queue ≡ x ∷ q → Roomy i st → Roomy i (dropped (back (walk_of i) x q) st)
unfolding dropped owed
dropped-roomy i st x q e r = record {
  out = r.out;
  held = back-held (walk_of i) x q st.seen r.out (at-queue e r.held);
  named = dropped-named (walk_of i) (universe i) x q e r.named;
  counted = r.counted;
}

-- painting leaves a part of the queue, and a frontier in the universe
pub painted-roomy : (i : Input) (st : State) (q : List (Id × ℤ)) (f : Id → Bool) → NoDup (ids q) → ((x : Id) → Mem x (ids q) → Mem x (ids st.queue))
    → ((x : Id) → f x ≡ true → Mem x (universe i)) → Roomy i st → Roomy i (painted_with st q f)
unfolding painted_with owed
painted-roomy i st q f d s j r = record {
  out = r.out;
  held = part_held st q f r.out d s r.held;
  named = painted-named (walk_of i) (universe i) st q f s j r.named;
  counted = r.counted;
}

-- the tips that wait are at most those lent
tips-few : (i : Input) (st : State) → open_walk i true ≡ opened st → st.admitted ≤ length (list_ids (width_in i) i.tips)
unfolding waits sees
tips-few i st e =
    let n = length (distinct [] (walk_of i).excluded (list_ids (width_in i) i.tips)) in
    let a : st.admitted + length {A = Id} [] ≤ n =
    open_keep i (λ xs s. s.admitted + length xs ≤ n) (λ x xs s t h. omega (arith, h)) (λ x xs s h. omega (arith, h)) (omega arith) st e in
    omega (arith, a, distinct-length (walk_of i).excluded [] (list_ids (width_in i) i.tips))

pub open_roomy : (i : Input) (st : State) → open_walk i true ≡ opened st → Roomy i st
unfolding owed P
open_roomy i st e =
    let a = accepted i (open_accepted i st e) in
    record {
      out = [];
      held = open_held i st e;
      named = open_named i st e;
      counted = omega (
        arith,
        tips-few i st e,
        unseen_bound st.seen (names i),
        length-append (store_parents (width_in i) i.store) (row_ids (width_in i) i.graph (graph_count i.graph)),
        row_ids_length (width_in i) i.graph (graph_count i.graph),
        store_parents_length (width_in i) i.store a.store_ok,
        length_list (width_in i) i.tips,
      );
    }

pub next-roomy : (i : Input) (st : State) → Roomy i st → Roomy i (next (walk_of i) st).state
next-roomy i st r = record {
  out = handed_by (next (walk_of i) st).answer.kind ++ r.out;
  held = next-held (walk_of i) st r.out r.held;
  named = (next-named (walk_of i) (universe i) (row_in i) (body_in i) (hidden_in i) (kid_in i) st r.named).after_it;
  counted = omega (arith, next-owed (walk_of i) (names i) (names-rows i) (names-store i) st, r.counted);
}

pub after-roomy : (i : Input) (st : State) → open_walk i true ≡ opened st → (k : ℕ) → Roomy i (state_after i k)
unfolding state_after state_of
after-roomy i st e zero = subst (λ (o : Opening). Roomy i (state_of o)) (sym e) (open_roomy i st e)
after-roomy i st e (suc k) = next-roomy i (state_after i k) (after-roomy i st e k)

pub all_fit : (i : Input) → AllFit i
unfolding AllFit
all_fit i st e k = roomy-fits i (open_accepted i st e) (state_after i k) (after-roomy i st e k)
