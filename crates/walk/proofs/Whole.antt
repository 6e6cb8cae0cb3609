-- The claims about whole inputs: the third demand, the sum and the end. An accepted opening has files of a good layout, and these give what
-- the claims on the model ask for: rows agree among themselves, and the parents that the files name are few enough for P.
-- Assumes nothing.
use Rattle.std.specs.Prelude.{None, Option, Some}
use mathlib.Core.Path.{◌≡◌, refl, sym, ◌∙◌, ap, subst}
use mathlib.Core.Logic.{◌⊎◌, inl, inr}
use Prim.Native.Nat.{ℕ, zero, suc, ◌+◌, ◌*◌, ◌/◌, ◌≤◌}
use mathlib.Core.Bool.{Bool, true, false, cond, ◌||◌}
use mathlib.Core.List.Memᴰ
use mathlib.Core.List.{List, [], ◌∷◌, map}
use native.Mathlib.Omega.{arith}
use lib.ListN.{length, length-append}
use lib.IntN.{ℤ, pos}
use Rattle.hash.specs.Bytes.{Id, among, ids_of}
use Rattle.walk.specs.declared.Refusal.{Refusal}
use Rattle.object.specs.Header.{Header, header}
use Rattle.odb.specs.Store.{store_is_ok, store_find}
use Rattle.commitgraph.specs.Graph.{hash_version, graph_head, graph_ok, graph_count}
use Rattle.hash.proofs.Tests.{clash, or_cases, some_of, some_in, no-some}
use Rattle.walk.proofs.Laws.{Coherent}
use Rattle.walk.specs.Settings.{goes_before, by_time}
use Rattle.walk.specs.Lookup.{row, world_of}
use Rattle.walk.specs.declared.Refusal.TheVariants.{InputTooLarge, PartialId, CorruptStore, UnknownGraph, CorruptGraph}
use Rattle.walk.specs.State.{waits, sees, Walk, State, is_empty, empty_state, enter}
use Rattle.walk.specs.Opening.{sizes_ok, whole_ids, Input, walk_of, list_ids, P, refusal, open_walk, open_or, open_tips, opened, tips_in, distinct, width_in}
use Rattle.walk.specs.Next.{Answer}
use Rattle.walk.specs.Calls.{answers, answers_from, calls}
use Rattle.walk.specs.Universe.{store_parents, row_ids, names}
use Rattle.walk.specs.Reach.{Mem}
use Rattle.walk.specs.Demand.{Third, ThirdOfKept, Hands}
use Rattle.walk.specs.Sums.{Sums, EndsBy, SumLaw, EndLaw}
use Rattle.walk.proofs.Queue.{length_queued}
use Rattle.walk.proofs.Take.{header_at}
use Rattle.walk.proofs.Open.{distinct-out, distinct-once, distinct-length, distinct-same}
use Rattle.walk.proofs.Kept.{kept, kept-listed, kept-premises}
use Rattle.walk.proofs.Third.{third-model}
use Rattle.walk.proofs.Visits.{unseen_bound, left}
use Rattle.walk.proofs.Tips.{open_accepted, open_keep}
use Rattle.walk.proofs.Tally.{calls-sum, calls-end}
use Rattle.walk.proofs.Files.{find_parents, store_parents_length}
use Rattle.walk.proofs.Rows.{coherent_world, no_rows, rows_in, row_ids_length}

-- ---- what an accepted opening shows

pub record Accepted (i : Input) : Type 0 where
  pub store_ok : store_is_ok (width_in i) i.store ≡ true
  pub graph-ok : (is_empty i.graph ≡ true) ⊎ (graph_ok (width_in i) i.graph ≡ true)

pick-none : (b : Bool) (n : Option Refusal) (r : Refusal) → cond b n (Some r) ≡ None → (b ≡ true) × (n ≡ None)
pick-none true n r e = (refl, e)
pick-none false n r e = no-some (sym e)

pub accepted : (i : Input) → refusal i ≡ None → Accepted i
unfolding refusal
accepted i e =
    let a = pick-none (sizes_ok i) _ InputTooLarge e in
    let b = pick-none (whole_ids i) _ PartialId a.1 in
    let c = pick-none (store_is_ok (width_in i) i.store) _ CorruptStore b.1 in
    let d = pick-none (is_empty i.graph || graph_head (hash_version i.settings.kind) i.graph) _ UnknownGraph c.1 in
    let f = pick-none (is_empty i.graph || graph_ok (width_in i) i.graph) None CorruptGraph d.1 in
    record { store_ok = c.0; graph-ok = or_cases {a = is_empty i.graph} {b = graph_ok (width_in i) i.graph} f.0 }

empty-is : (g : List ℕ) → is_empty g ≡ true → g ≡ []
unfolding is_empty
empty-is [] e = refl
empty-is (x ∷ g) e = clash refl (sym e)

coherent_of : (i : Input) → Accepted i → Coherent (world_of (width_in i) i.store i.graph)
coherent_of i a = go i.graph a.graph-ok
  where
    none-there : (g : List ℕ) → is_empty g ≡ true → g ≡ []
    none-there g e = empty-is g e

    go : (g : List ℕ) → (is_empty g ≡ true) ⊎ (graph_ok (width_in i) g ≡ true) → Coherent (world_of (width_in i) i.store g)
    go g (inl e) = subst (λ (h : List ℕ). Coherent (world_of (width_in i) i.store h)) (sym (none-there g e)) (no_rows (width_in i) i.store)
    go g (inr e) = coherent_world (width_in i) i.store g e

-- ---- the ids of a list

length_cut : (width : ℕ) (k : ℕ) (b : List ℕ) → length (ids_of width k b) ≡ k
unfolding ids_of
length_cut width zero b = refl
length_cut width (suc k) b = ap suc (length_cut width k _)

pub length_list : (width : ℕ) (b : List ℕ) → length (list_ids width b) ≡ length b / width
unfolding list_ids
length_list width b = length_cut width (length b / width) b

-- ---- what the store names

store-names : (i : Input) (x p : Id) (h : Header) → (world_of (width_in i) i.store i.graph).store x ≡ Some h → Mem p h.ids → Mem p (store_parents (width_in i) i.store)
unfolding world_of
store-names i x p h e m =
    let o = some_of (store_find (width_in i) i.store x) (λ body. Some (header (width_in i) body)) h e in
    let k : header (width_in i) o.0 ≡ h = some_in o.2 in
    find_parents (width_in i) i.store x o.0 o.1 p (subst (λ (q : Header). Mem p q.ids) (sym k) m)

store_names' : (i : Input) (x p : Id) (h : Header) → (walk_of i).world.store x ≡ Some h → Mem p h.ids → Mem p (store_parents (width_in i) i.store)
unfolding walk_of
store_names' i x p h e m = store-names i x p h e m

world_coherent : (i : Input) → Accepted i → Coherent (walk_of i).world
unfolding walk_of
world_coherent i a = coherent_of i a

turns-enough : (i : Input) → Accepted i → 3 * length (store_parents (width_in i) i.store) + length (list_ids (width_in i) i.tips) + length (walk_of i).hidden ≤ (walk_of i).fuel
unfolding walk_of P
turns-enough i a = omega (arith, store_parents_length (width_in i) i.store a.store_ok, length_list (width_in i) i.tips, length_list (width_in i) i.hidden)

room : (i : Input) → Accepted i → length (list_ids (width_in i) i.tips) + length (store_parents (width_in i) i.store) ≤ P i
unfolding P
room i a = omega (arith, store_parents_length (width_in i) i.store a.store_ok, length_list (width_in i) i.tips)

-- ---- the third demand

opened_as : (i : Input) → refusal i ≡ None → (st : State) → tips_in (walk_of i) (distinct [] (walk_of i).excluded (list_ids (width_in i) i.tips)) empty_state ≡ opened st
    → open_walk i true ≡ opened st
unfolding open_walk open_or open_tips
opened_as i e st k = ap (λ (n : Option Refusal). open_or i true n) e ∙ k

pub answers-calls : (i : Input) (st : State) → open_walk i true ≡ opened st → (k : ℕ) → answers i k ≡ calls (walk_of i) k st
unfolding answers answers_from
answers-calls i st e k = ap (answers_from (walk_of i) k) e

-- the tips that are left; they lose nothing more
abbrev left-tips : Input → List Id
left-tips i = kept (walk_of i) (list_ids (width_in i) i.tips)

left-same : (i : Input) → distinct [] (walk_of i).excluded (left-tips i) ≡ left-tips i
unfolding among
left-same i =
    distinct-same (walk_of i).excluded [] (left-tips i) (distinct-once (walk_of i).excluded [] (list_ids (width_in i) i.tips))
    (λ x m. (distinct-out (walk_of i).excluded [] (list_ids (width_in i) i.tips) x m).1)

left-few : (i : Input) → length (left-tips i) ≤ length (list_ids (width_in i) i.tips)
left-few i = distinct-length (walk_of i).excluded [] (list_ids (width_in i) i.tips)

pub third_of_kept : (i : Input) → ThirdOfKept i
unfolding ThirdOfKept
third_of_kept i e pre =
    let a = accepted i e in
    let co : Coherent (walk_of i).world = world_coherent i a in
    let r = third-model (walk_of i) (left-tips i) pre co (store_parents (width_in i) i.store)
    (λ x p d m. let h = header_at (walk_of i) (left-tips i) pre co x d in
    store_names' i x p h.0 h.1 (subst (λ (l : List Id). Mem p l) (sym h.2.ids_are) m))
    (omega (arith, turns-enough i a, left-few i)) in
    let t : tips_in (walk_of i) (left-tips i) empty_state ≡ opened r.state =
    subst (λ (l : List Id). tips_in (walk_of i) l empty_state ≡ opened r.state) (left-same i) r.accepted in
    let o : open_walk i true ≡ opened r.state = opened_as i e r.state t in
    let listed = kept-listed (walk_of i) (list_ids (width_in i) i.tips) in
    record {
      state = r.state;
      accepted = o;
      list = r.list;
      different = r.different;
      exactly = λ x. (λ m. (listed x).0 ((r.exactly x).0 m), λ l. (r.exactly x).1 ((listed x).1 l));
      within = omega (arith, r.short, room i a, left-few i);
      handed_out = λ k. subst (λ (c : List Answer). Hands r.list c) (sym (answers-calls i r.state o k)) (r.in_order k);
    }

pub third : (i : Input) → Third i
unfolding Third ThirdOfKept
third i e pre = third_of_kept i e (kept-premises (walk_of i) (list_ids (width_in i) i.tips) pre)

-- ---- the sum and the end, with no premises

-- what holds of a state before its first call
pub record Fresh (n : ℕ) (st : State) : Type 0 where
  pub not-painted : st.painted ≡ false
  pub tallied : st.admitted ≡ 0 + st.struck + length st.queue
  pub short : length st.queue ≤ n

entered_length : (v : Walk) (x : Id) (t : ℤ) (l : List (Id × ℤ)) → length (enter v x t l) ≡ suc (length l)
unfolding enter
entered_length v x t l = length_queued (goes_before v.settings) (x, cond (by_time v.settings) t (pos 0)) l

pub open_fresh : (i : Input) (st : State) → open_walk i true ≡ opened st → Fresh (length (list_ids (width_in i) i.tips)) st
unfolding waits sees
open_fresh i st e =
    let xs = distinct [] (walk_of i).excluded (list_ids (width_in i) i.tips) in
    let f = open_keep i (λ ys s. (s.painted ≡ false) × (s.admitted ≡ 0 + s.struck + length s.queue) × (length s.queue + length ys ≤ length xs))
    (λ x ys s t h. (h.0, omega (arith, h.1, entered_length (walk_of i) x t s.queue), omega (arith, h.2, entered_length (walk_of i) x t s.queue)))
    (λ x ys s h. (h.0, h.1, omega (arith, h.2)))
    (refl, refl, omega arith) st e in
    record { not-painted = f.0; tallied = f.1; short = omega (arith, f.2, distinct-length (walk_of i).excluded [] (list_ids (width_in i) i.tips)) }

pub names-rows : (i : Input) (x p : Id) (ps : List (Id × ℤ)) (l : ℕ) (s : ℤ) → (walk_of i).world.graph x ≡ row ps l s → Mem p (map (λ q. q.0) ps) → Mem p (names i)
unfolding walk_of
names-rows i x p ps l s e m = Memᴰ.append_right (store_parents (width_in i) i.store) (rows_in (width_in i) i.store i.graph x p ps l s e m)

pub names-store : (i : Input) (x p : Id) (h : Header) → (walk_of i).world.store x ≡ Some h → Mem p h.ids → Mem p (names i)
names-store i x p h e m = Memᴰ.append_left (row_ids (width_in i) i.graph (graph_count i.graph)) (store_names' i x p h e m)

pub sum_law : (i : Input) → SumLaw i
unfolding SumLaw
sum_law i st e k =
    let f = open_fresh i st e in
    subst (λ (c : List Answer). Sums 0 c) (sym (answers-calls i st e k)) (calls-sum (walk_of i) k 0 st (λ u. refl) f.tallied)

pub end_law : (i : Input) → EndLaw i
unfolding EndLaw P left
end_law i st e k =
    let f = open_fresh i st e in
    let a = accepted i (open_accepted i st e) in
    let b : left (names i) st ≤ P i =
    omega (
      arith,
      f.short,
      unseen_bound st.seen (names i),
      length-append (store_parents (width_in i) i.store) (row_ids (width_in i) i.graph (graph_count i.graph)),
      row_ids_length (width_in i) i.graph (graph_count i.graph),
      store_parents_length (width_in i) i.store a.store_ok,
      length_list (width_in i) i.tips,
    ) in
    let n : suc (P i) ≡ P i + 1 = omega arith in
    subst (λ (m : ℕ). EndsBy m (answers i k)) n
    (subst (λ (c : List Answer). EndsBy (suc (P i)) c) (sym (answers-calls i st e k)) (calls-end (walk_of i) (names i) (names-rows i) (names-store i) k (P i) st b))
