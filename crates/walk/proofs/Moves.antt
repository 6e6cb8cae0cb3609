-- What a call does, case by case: a view of `next` that laws about every call are proved over. It follows the clauses of the definitions.
-- Assumes nothing.
use Rattle.std.specs.Prelude.{None, Option, Some}
use mathlib.Core.Path.{◌≡◌, refl, ◌∙◌, ap}
use Prim.Native.Nat.{ℕ, zero, suc}
use mathlib.Core.Bool.{Bool, true, false, cond, ◌||◌}
use mathlib.Core.List.{List, [], ◌∷◌, map}
use lib.IntN.{ℤ}
use Rattle.hash.specs.Bytes.{Id}
use Rattle.object.specs.Header.{Header}
use Rattle.walk.specs.declared.Refusal.{Refusal}
use Rattle.walk.specs.declared.Refusal.TheVariants.{CommitNotFound}
use Rattle.walk.specs.Settings.{followed}
use Rattle.walk.specs.Lookup.{Row, no_row, row, corrupt}
use Rattle.walk.specs.State.{Walk, State, ids, with_queue, is_empty, nobody}
use Rattle.walk.specs.Painting.{Paint, Painting, stop, going, paint, both_marks}
use Rattle.walk.specs.Calls.{calls}
use Rattle.walk.specs.Next.{end, refused, handed, Step, step, zoned, zone_shown, level_shown, visit_all, dropped, back, with_seconds, queued_seconds, step_from_row, from_body, ending, kind_of, take_store, take_row, take_queue, take_next, outside, painted_with, after_paint, first_call, next}
use Rattle.walk.proofs.Laws.{cond_both}

-- the front of the queue is taken
pub data Takes (v : Walk) : State → Step → Type 0 where
  -- nothing waits
  nothing : {st : State} → st.queue ≡ [] → Takes v st (step end [] st)
  -- x is in neither file
  absent : {st : State} (x : Id × ℤ) (q : List (Id × ℤ)) → st.queue ≡ x ∷ q → v.world.store x.0 ≡ None → Takes v st (step (refused CommitNotFound) [] (with_queue q st))
  -- x is read from the store: handed out, or refused as its header ends
  from-store : {st : State} (x : Id × ℤ) (q : List (Id × ℤ)) (h : Header) → st.queue ≡ x ∷ q → v.world.store x.0 ≡ Some h
      → Takes v st (zoned (zone_shown (ending v.settings h) h.zone) (step (kind_of (ending v.settings h) (handed x.0 None (queued_seconds v x.1))) (followed v.settings h.ids)
      (visit_all v (with_queue q st) (with_seconds v (followed v.settings h.ids)))))
  -- x is read from its row
  from_row : {st : State} (x : Id × ℤ) (q ps : List (Id × ℤ)) (l : ℕ) (s : ℤ) → st.queue ≡ x ∷ q → v.world.graph x.0 ≡ row ps l s
      → Takes v st (step (handed x.0 (level_shown l) (queued_seconds v x.1)) (map (λ p. p.0) (followed v.settings ps)) (visit_all v (with_queue q st) (followed v.settings ps)))
  -- its list is corrupt: the graph is dropped, x goes back, and the call goes on
  drops : {st : State} (x : Id × ℤ) (q : List (Id × ℤ)) {r : Step} → st.queue ≡ x ∷ q → Takes v (dropped (back v x q) st) r → Takes v st r

-- a call: nothing is to be painted any more, or there is nothing to paint; painting goes through and strikes, or is refused
pub data Moves (v : Walk) (st : State) : Step → Type 0 where
  later : {r : Step} → st.painted ≡ true → Takes v st r → Moves v st r
  unhidden : {r : Step} → st.painted ≡ false → Takes v (painted_with st st.queue nobody) r → Moves v st r
  strikes : {r : Step} (p : Paint) → st.painted ≡ false → paint v.world v.fuel (ids st.queue) v.hidden ≡ going p
      → Takes v (painted_with st (outside (both_marks p) st.queue) (both_marks p)) r → Moves v st r
  stops : (n : Refusal) → st.painted ≡ false → paint v.world v.fuel (ids st.queue) v.hidden ≡ stop n → Moves v st (step (refused n) [] (painted_with st [] nobody))

module _ (v : Walk) where
  body-takes : (st : State) (x : Id × ℤ) (q : List (Id × ℤ)) → st.queue ≡ x ∷ q → (o : Option Header) → v.world.store x.0 ≡ o → Takes v st (from_body v (with_queue q st) x.0 x.1 o)
  unfolding from_body
  body-takes st x q e None k = absent x q e k
  body-takes st x q e (Some h) k = from-store x q h e k

  store-takes : (st : State) (q : List (Id × ℤ)) → st.queue ≡ q → Takes v st (take_store v st q)
  unfolding take_store
  store-takes st [] e = nothing e
  store-takes st (x ∷ q) e = body-takes st x q e (v.world.store x.0) refl

  row-takes : (st : State) (x : Id × ℤ) (q : List (Id × ℤ)) → st.queue ≡ x ∷ q → (r : Row) → v.world.graph x.0 ≡ r → Takes v st (take_row v st x q r)
  unfolding take_row dropped step_from_row
  row-takes st x q e no_row k = store-takes st (x ∷ q) e
  row-takes st x q e corrupt k = drops x q e (store-takes (dropped (back v x q) st) (back v x q) refl)
  row-takes st x q e (row ps l s) k = from_row x q ps l s e k

  pub takes : (st : State) → Takes v st (take_next v st)
  unfolding take_next take_queue
  takes st = go st.queue refl
    where
      go : (q : List (Id × ℤ)) → st.queue ≡ q → Takes v st (take_queue v st q)
      go [] e = nothing e
      go (x ∷ q) e =
          cond_both (Takes v st) st.kept (take_row v st x q (v.world.graph x.0)) (take_store v st (x ∷ q)) (row-takes st x q e (v.world.graph x.0) refl) (store-takes st (x ∷ q) e)

  paint-moves : (st : State) → st.painted ≡ false → (p : Painting) → paint v.world v.fuel (ids st.queue) v.hidden ≡ p → Moves v st (after_paint v st p)
  unfolding after_paint
  paint-moves st u (stop n) e = stops n u e
  paint-moves st u (going p) e = strikes p u e (takes (painted_with st (outside (both_marks p) st.queue) (both_marks p)))

  pub moves : (st : State) → Moves v st (next v st)
  unfolding next first_call
  moves st = go st.painted refl
    where
      go : (b : Bool) → st.painted ≡ b → Moves v st (cond b (take_next v st) (first_call v st))
      go true e = later e (takes st)
      go false e =
          cond_both (Moves v st) (is_empty v.hidden || is_empty st.queue) (take_next v (painted_with st st.queue nobody)) (after_paint v st (paint v.world v.fuel (ids st.queue) v.hidden))
          (unhidden e (takes (painted_with st st.queue nobody))) (paint-moves st e (paint v.world v.fuel (ids st.queue) v.hidden) refl)

-- ---- which piece of a call runs
-- (`ap` and no `rw` here: a rewriting of `st.painted` would write st out as a record everywhere)

pub next-painted : (v : Walk) (st : State) → st.painted ≡ true → next v st ≡ take_next v st
unfolding next
next-painted v st e = ap (λ (b : Bool). cond b (take_next v st) (first_call v st)) e

pub next-first : (v : Walk) (st : State) → st.painted ≡ false → next v st ≡ first_call v st
unfolding next
next-first v st e = ap (λ (b : Bool). cond b (take_next v st) (first_call v st)) e

pub first_plain : (v : Walk) (st : State) → (is_empty v.hidden || is_empty st.queue) ≡ true → first_call v st ≡ take_next v (painted_with st st.queue nobody)
unfolding first_call
first_plain v st e =
    ap (λ (b : Bool). cond b (take_next v (painted_with st st.queue nobody)) (after_paint v st (paint v.world v.fuel (ids st.queue) v.hidden))) e

pub first-paint : (v : Walk) (st : State) (p : Paint) → (is_empty v.hidden || is_empty st.queue) ≡ false
    → paint v.world v.fuel (ids st.queue) v.hidden ≡ going p
    → first_call v st ≡ take_next v (painted_with st (outside (both_marks p) st.queue) (both_marks p))
unfolding first_call after_paint
first-paint v st p e k =
    ap (λ (b : Bool). cond b (take_next v (painted_with st st.queue nobody)) (after_paint v st (paint v.world v.fuel (ids st.queue) v.hidden))) e
    ∙ ap (after_paint v st) k

pub first-stop : (v : Walk) (st : State) (n : Refusal) → (is_empty v.hidden || is_empty st.queue) ≡ false
    → paint v.world v.fuel (ids st.queue) v.hidden ≡ stop n → first_call v st ≡ step (refused n) [] (painted_with st [] nobody)
unfolding first_call after_paint
first-stop v st n e k =
    ap (λ (b : Bool). cond b (take_next v (painted_with st st.queue nobody)) (after_paint v st (paint v.world v.fuel (ids st.queue) v.hidden))) e
    ∙ ap (after_paint v st) k

pub same-calls : (v : Walk) (a b : State) → next v a ≡ next v b → (k : ℕ) → calls v k a ≡ calls v k b
unfolding calls
same-calls v a b e zero = refl
same-calls v a b e (suc k) = ap (λ (r : Step). r.answer ∷ calls v k r.state) e
