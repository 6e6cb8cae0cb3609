-- Every id that the walk names lies in one list of at most P ids: the tips and hidden tips as lent, the store's parent lines and the graph's rows.
-- For a tip is of the first, and after the opening an id is seen only as a parent, in the frontier only by a mark, and marks go to tips, hidden tips and parents.
-- Assumes nothing.
use Rattle.std.specs.Prelude.{None, Option, Some}
use mathlib.Core.Path.{◌≡◌, refl, sym, subst}
use mathlib.Core.Logic.{inl, ⊎_elim}
use Prim.Native.Nat.{ℕ, zero, suc, ◌≤◌}
use mathlib.Core.Bool.{Bool, true, cond, ◌||◌}
use mathlib.Core.List.Memᴰ
use mathlib.Core.List.{List, [], ◌∷◌, ◌++◌, map}
use native.Mathlib.Omega.{arith}
use lib.ListN.{length, length-append}
use lib.IntN.{ℤ, pos}
use Rattle.hash.specs.Bytes.{Id}
use Rattle.object.specs.Header.{Header}
use Rattle.commitgraph.specs.Graph.{graph_count}
use Rattle.walk.specs.declared.Refusal.{Refusal}
use Rattle.walk.specs.Settings.{goes_before, by_time, followed}
use Rattle.walk.specs.Lookup.{row}
use Rattle.walk.specs.State.{Walk, State, add, ids, enter, with_queue, nobody, waits, sees}
use Rattle.walk.specs.Opening.{Input, walk_of, list_ids, P, refusal, Opening, opened, open_walk, width_in}
use Rattle.walk.specs.Painting.{Paint, going, paint, both_marks}
use Rattle.walk.specs.Next.{handed, Answer, Step, step, admits, visit, visit_all, dropped, back, with_seconds, queued_seconds, ending, kind_of, outside, painted_with, next}
use Rattle.walk.specs.Calls.{calls, answers, state_of, state_after}
use Rattle.walk.specs.Universe.{store_parents, row_ids, names, universe}
use Rattle.walk.specs.Reach.{Mem}
use Rattle.walk.specs.AnyInput.{handed_by}
use Rattle.hash.proofs.Tests.{by_cases, clash, and_first}
use Rattle.walk.proofs.Laws.{add-cases}
use Rattle.walk.proofs.Queue.{queued-out}
use Rattle.walk.proofs.Take.{followed_sub, followed_map, mem_map, with_seconds_lem}
use Rattle.walk.proofs.Painting.{kids}
use Rattle.walk.proofs.Named.{paint-within}
use Rattle.walk.proofs.Open.{distinct-out}
use Rattle.walk.proofs.Files.{store_parents_length}
use Rattle.walk.proofs.Rows.{row_ids_length}
use Rattle.walk.proofs.Whole.{accepted, length_list, names-rows, names-store, answers-calls}
use Rattle.walk.proofs.Enough.{kids_named}
use Rattle.walk.proofs.Moves.{Takes, nothing, absent, from-store, from_row, drops, Moves, later, unhidden, strikes, stops, moves}
use Rattle.walk.proofs.Tips.{open_keep}
use Rattle.walk.proofs.Outside.{outside-out}

-- the ids of a state lie in us
pub record Named (us : List Id) (st : State) : Type 0 where
  pub queue_in : (x : Id) → Mem x (ids st.queue) → Mem x us
  pub seen_in : (x : Id) → st.seen x ≡ true → Mem x us
  pub front_in : (x : Id) → st.frontier x ≡ true → Mem x us

-- the ids of an answer lie in us
pub record Tells (us : List Id) (a : Answer) : Type 0 where
  pub id_in_lem : (x : Id) → Mem x (handed_by a.kind) → Mem x us
  pub parents_in : (p : Id) → Mem p a.parents → Mem p us

pub record StepNamed (us : List Id) (r : Step) : Type 0 where
  pub after_it : Named us r.state
  pub tells : Tells us r.answer

module _ (v : Walk) (us : List Id) where
  -- ---- visits

  enter-in : (p : Id) (t : ℤ) (q : List (Id × ℤ)) → Mem p us → ((x : Id) → Mem x (ids q) → Mem x us) → (x : Id) → Mem x (ids (enter v p t q)) → Mem x us
  unfolding enter
  enter-in p t q m i x k = ⊎_elim (λ e. rw e m) (i x) (queued-out (goes_before v.settings) (p, cond (by_time v.settings) t (pos 0)) q x k)

  add-in : (p : Id) (f : Id → Bool) → Mem p us → ((x : Id) → f x ≡ true → Mem x us) → (x : Id) → add f p x ≡ true → Mem x us
  add-in p f m i x k = ⊎_elim (λ e. rw e m) (i x) (add-cases f p x k)

  pub visit-named : (st : State) (p : Id) (t : ℤ) → Mem p us → Named us st → Named us (visit v st p t)
  unfolding visit waits sees
  visit-named st p t m n =
      by_cases (st.frontier p || st.seen p)
      (λ e. rw e n)
      (λ e. by_cases (admits v p t)
      (λ a. rw (e, a) (record { queue_in = enter-in p t st.queue m n.queue_in; seen_in = add-in p st.seen m n.seen_in; front_in = n.front_in }))
      (λ a. rw (e, a) (record { queue_in = n.queue_in; seen_in = add-in p st.seen m n.seen_in; front_in = n.front_in })))

  pub visitAll-named : (ps : List (Id × ℤ)) (st : State) → ((p : Id × ℤ) → Mem p ps → Mem p.0 us) → Named us st → Named us (visit_all v st ps)
  unfolding visit_all
  visitAll-named [] st i n = n
  visitAll-named (p ∷ ps) st i n =
      visitAll-named ps (visit v st p.0 p.1) (λ q k. i q (Memᴰ.tail k)) (visit-named st p.0 p.1 (i p (Memᴰ.head refl)) n)

  back_in : (x : Id × ℤ) (q : List (Id × ℤ)) → ((y : Id) → Mem y (ids (x ∷ q)) → Mem y us) → (y : Id) → Mem y (ids (back v x q)) → Mem y us
  unfolding back ids
  back_in x q i y m =
      by_cases (by_time v.settings)
      (λ h. ⊎_elim (λ e. i y (Memᴰ.head e)) (λ k. i y (Memᴰ.tail k)) (queued-out (goes_before v.settings) x q y (rw h at m)))
      (λ h. i y (rw h at m))

  queue-of : {st : State} {q : List (Id × ℤ)} → st.queue ≡ q → Named us st → (y : Id) → Mem y (ids q) → Mem y us
  queue-of e n = subst (λ (l : List (Id × ℤ)). (y : Id) → Mem y (ids l) → Mem y us) e n.queue_in

  head_in : {st : State} (x : Id × ℤ) (q : List (Id × ℤ)) → st.queue ≡ x ∷ q → Named us st → Mem x.0 us
  unfolding ids
  head_in x q e n = queue-of e n x.0 (Memᴰ.head refl)

  pub rest-named : {st : State} (x : Id × ℤ) (q : List (Id × ℤ)) → st.queue ≡ x ∷ q → Named us st → Named us (with_queue q st)
  unfolding with_queue ids
  rest-named x q e n = record { queue_in = λ y k. queue-of e n y (Memᴰ.tail k); seen_in = n.seen_in; front_in = n.front_in }

  pub dropped-named : {st : State} (x : Id × ℤ) (q : List (Id × ℤ)) → st.queue ≡ x ∷ q → Named us st → Named us (dropped (back v x q) st)
  unfolding dropped
  dropped-named x q e n = record { queue_in = back_in x q (queue-of e n); seen_in = n.seen_in; front_in = n.front_in }

  pub painted-named : (st : State) (q : List (Id × ℤ)) (f : Id → Bool) → ((x : Id) → Mem x (ids q) → Mem x (ids st.queue)) → ((x : Id) → f x ≡ true → Mem x us) → Named us st → Named us (painted_with st q f)
  unfolding painted_with
  painted-named st q f i j n = record { queue_in = λ x k. n.queue_in x (i x k); seen_in = n.seen_in; front_in = j }

  -- ---- one commit is taken

  module _ (in_rows : (x p : Id) (ps : List (Id × ℤ)) (l : ℕ) (s : ℤ) → v.world.graph x ≡ row ps l s → Mem p (map (λ q. q.0) ps) → Mem p us)
      (in_store_lem : (x p : Id) (h : Header) → v.world.store x ≡ Some h → Mem p h.ids → Mem p us) where
    kind-in : (n : Option Refusal) (x : Id) (generation : Option ℕ) (t : Option ℤ) → Mem x us → (y : Id) → Mem y (handed_by (kind_of n (handed x generation t))) → Mem y us
    unfolding kind_of handed_by
    kind-in None x generation t m y k = ⊎_elim (λ e. rw e m) (λ j. absurd (Memᴰ.not-nil j)) (Memᴰ.cases_cons k)
    kind-in (Some r) x generation t m y k = absurd (Memᴰ.not-nil k)

    takes-named : {st : State} {r : Step} → Takes v st r → Named us st → StepNamed us r
    unfolding step handed_by with_queue dropped kind_of
    takes-named (nothing e) n = record { after_it = n; tells = record { id_in_lem = λ x k. absurd (Memᴰ.not-nil k); parents_in = λ p k. absurd (Memᴰ.not-nil k) } }
    takes-named (absent x q e k) n = record {
      after_it = rest-named x q e n;
      tells = record { id_in_lem = λ y j. absurd (Memᴰ.not-nil j); parents_in = λ p j. absurd (Memᴰ.not-nil j) };
    }
    takes-named {st} (from-store x q h e k) n =
        let f = followed v.settings h.ids in
        let i : (p : Id) → Mem p f → Mem p us = λ p j. in_store_lem x.0 p h k (followed_sub v.settings p h.ids j) in
        record {
          after_it = visitAll-named (with_seconds v f) (with_queue q st) (λ p j. i p.0 (with_seconds_lem v f p j).0) (rest-named x q e n);
          tells = record { id_in_lem = kind-in (ending v.settings h) x.0 None (queued_seconds v x.1) (head_in x q e n); parents_in = i };
        }
    takes-named {st} (from_row x q ps generation s e k) n =
        let f = followed v.settings ps in
        let j : (p : Id) → Mem p (map (λ (q : Id × ℤ). q.0) f) → Mem p us =
        λ p m. in_rows x.0 p ps generation s k (followed_sub v.settings p (map (λ (q : Id × ℤ). q.0) ps) (rw (followed_map v.settings (λ (q : Id × ℤ). q.0) ps) at m)) in
        record {
          after_it = visitAll-named f (with_queue q st) (λ p m. j p.0 (mem_map (λ (q : Id × ℤ). q.0) p f m)) (rest-named x q e n);
          tells = record { id_in_lem = kind-in None x.0 (Some generation) (queued_seconds v x.1) (head_in x q e n); parents_in = j };
        }
    takes-named (drops x q e t) n = takes-named t (dropped-named x q e n)

    module _ (in-hidden : (x : Id) → Mem x v.hidden → Mem x us) (in-kids : (x p : Id) → Mem p (kids v.world x) → Mem p us) where
      -- the frontier has marks
      front-named : (st : State) (p : Paint) → paint v.world v.fuel (ids st.queue) v.hidden ≡ going p → Named us st → (x : Id) → both_marks p x ≡ true → Mem x us
      front-named st p e n x k =
          paint-within v.world us in-kids v.fuel (ids st.queue) v.hidden p n.queue_in in-hidden e x (inl (and_first (p.vis x) (p.hid x) k))

      moves-named : {st : State} {r : Step} → Moves v st r → Named us st → StepNamed us r
      unfolding step handed_by ids
      moves-named (later u t) n = takes-named t n
      moves-named {st} (unhidden u t) n = takes-named t (painted-named st st.queue nobody (λ x k. k) (λ x k. clash k refl) n)
      moves-named {st} (strikes p u e t) n =
          takes-named t (painted-named st (outside (both_marks p) st.queue) (both_marks p) (λ x k. (outside-out (both_marks p) st.queue x k).0) (front-named st p e n) n)
      moves-named {st} (stops m u e) n = record {
        after_it = painted-named st [] nobody (λ x k. absurd (Memᴰ.not-nil k)) (λ x k. clash k refl) n;
        tells = record { id_in_lem = λ x k. absurd (Memᴰ.not-nil k); parents_in = λ p k. absurd (Memᴰ.not-nil k) };
      }

      pub next-named : (st : State) → Named us st → StepNamed us (next v st)
      next-named st n = moves-named (moves v st) n

      pub calls-tell : (k : ℕ) (st : State) → Named us st → (a : Answer) → Mem a (calls v k st) → Tells us a
      unfolding calls
      calls-tell zero st n a m = absurd (Memᴰ.not-nil m)
      calls-tell (suc k) st n a m =
          let s = next-named st n in
          ⊎_elim (λ e. subst (Tells us) (sym e) s.tells) (calls-tell k (next v st).state s.after_it a) (Memᴰ.cases_cons m)

-- ---- of an input

pub universe_length : (i : Input) → refusal i ≡ None → length (universe i) ≤ P i
unfolding universe P
universe_length i e =
    let a = accepted i e in
    omega (
      arith,
      length-append (list_ids (width_in i) i.tips) (list_ids (width_in i) i.hidden ++ names i),
      length-append (list_ids (width_in i) i.hidden) (names i),
      length-append (store_parents (width_in i) i.store) (row_ids (width_in i) i.graph (graph_count i.graph)),
      row_ids_length (width_in i) i.graph (graph_count i.graph),
      store_parents_length (width_in i) i.store a.store_ok,
      length_list (width_in i) i.tips,
      length_list (width_in i) i.hidden,
    )

pub tip_in : (i : Input) (x : Id) → Mem x (list_ids (width_in i) i.tips) → Mem x (universe i)
unfolding universe
tip_in i x m = Memᴰ.append_left (list_ids (width_in i) i.hidden ++ names i) m

pub hidden_in : (i : Input) (x : Id) → Mem x (walk_of i).hidden → Mem x (universe i)
unfolding universe walk_of
hidden_in i x m = Memᴰ.append_right (list_ids (width_in i) i.tips) (Memᴰ.append_left (names i) m)

pub name_in : (i : Input) (x : Id) → Mem x (names i) → Mem x (universe i)
unfolding universe
name_in i x m = Memᴰ.append_right (list_ids (width_in i) i.tips) (Memᴰ.append_right (list_ids (width_in i) i.hidden) m)

pub row_in : (i : Input) (x p : Id) (ps : List (Id × ℤ)) (l : ℕ) (s : ℤ) → (walk_of i).world.graph x ≡ row ps l s → Mem p (map (λ q. q.0) ps) → Mem p (universe i)
row_in i x p ps l s e m = name_in i p (names-rows i x p ps l s e m)

pub body_in : (i : Input) (x p : Id) (h : Header) → (walk_of i).world.store x ≡ Some h → Mem p h.ids → Mem p (universe i)
body_in i x p h e m = name_in i p (names-store i x p h e m)

pub kid_in : (i : Input) (x p : Id) → Mem p (kids (walk_of i).world x) → Mem p (universe i)
kid_in i x p m = name_in i p (kids_named i x p m)

-- before the tips xs
record Before (us xs : List Id) (st : State) : Type 0 where
  named : Named us st
  due : (x : Id) → Mem x xs → Mem x us

tip_waits : (v : Walk) (us : List Id) (x : Id) (xs : List Id) (st : State) (t : ℤ) → Before us (x ∷ xs) st → Before us xs (waits v st x t)
unfolding waits
tip_waits v us x xs st t b = record {
  named = record {
    queue_in = enter-in v us x t st.queue (b.due x (Memᴰ.head refl)) b.named.queue_in;
    seen_in = add-in v us x st.seen (b.due x (Memᴰ.head refl)) b.named.seen_in;
    front_in = b.named.front_in;
  };
  due = λ y k. b.due y (Memᴰ.tail k);
}

tip_sees : (v : Walk) (us : List Id) (x : Id) (xs : List Id) (st : State) → Before us (x ∷ xs) st → Before us xs (sees st x)
unfolding sees
tip_sees v us x xs st b = record {
  named = record {
    queue_in = b.named.queue_in;
    seen_in = add-in v us x st.seen (b.due x (Memᴰ.head refl)) b.named.seen_in;
    front_in = b.named.front_in;
  };
  due = λ y k. b.due y (Memᴰ.tail k);
}

pub open_named : (i : Input) (st : State) → open_walk i true ≡ opened st → Named (universe i) st
unfolding ids
open_named i st e =
    (open_keep i (Before (universe i)) (tip_waits (walk_of i) (universe i)) (tip_sees (walk_of i) (universe i)) (record {
      named = record { queue_in = λ x k. absurd (Memᴰ.not-nil k); seen_in = λ x k. clash k refl; front_in = λ x k. clash k refl };
      due = λ x k. tip_in i x (distinct-out (walk_of i).excluded [] (list_ids (width_in i) i.tips) x k).0;
    }) st e).named

-- after every number of calls the ids that wait, are seen or are in the frontier lie in the universe
pub all_named : (i : Input) (st : State) → open_walk i true ≡ opened st → (k : ℕ) → Named (universe i) (state_after i k)
unfolding state_after state_of
all_named i st e zero = subst (λ (o : Opening). Named (universe i) (state_of o)) (sym e) (open_named i st e)
all_named i st e (suc k) = (next-named (walk_of i) (universe i) (row_in i) (body_in i) (hidden_in i) (kid_in i) (state_after i k) (all_named i st e k)).after_it

-- every id in an answer, handed out or as a parent, lies in the universe
pub all_told : (i : Input) (st : State) → open_walk i true ≡ opened st → (k : ℕ) (a : Answer) → Mem a (answers i k) → Tells (universe i) a
all_told i st e k a m =
    calls-tell (walk_of i) (universe i) (row_in i) (body_in i) (hidden_in i) (kid_in i) k st (open_named i st e) a (rw (answers-calls i st e k) at m)
