-- The state that an accepted opening leaves: it uses the graph, and where commits wait by time each waits with the seconds that the store has
-- for it, for a tip enters the queue with the seconds that were read for it and with no others. Assumes nothing.
use Rattle.std.specs.Prelude.{None, Option, Some}
use mathlib.Core.Path.{◌≡◌, refl, sym, ap, ◌∙◌, subst}
use mathlib.Core.Logic.{◌⊎◌, inl, inr, ⊎_elim}
use Prim.Native.Nat.{ℕ}
use mathlib.Core.Bool.{Bool, true, cond, not}
use mathlib.Core.List.Memᴰ
use mathlib.Core.List.{List, [], ◌∷◌}
use native.Mathlib.Omega.{arith}
use lib.IntN.{ℤ, pos}
use Rattle.hash.specs.Bytes.{Id, if_some}
use Rattle.hash.proofs.Tests.{by_cases, and_first}
use Rattle.object.specs.Header.{Header}
use Rattle.walk.specs.declared.Refusal.{Refusal}
use Rattle.walk.specs.declared.Refusal.TheVariants.{TipNotFound, TipUnreadable}
use Rattle.walk.specs.Settings.{timed, only_first, by_time, goes_before, cutoff_of, not_before}
use Rattle.walk.specs.Lookup.{World, world_of, store_seconds, seconds_for}
use Rattle.walk.specs.State.{Walk, State, empty_state, queued, enter, sees, waits}
use Rattle.walk.specs.Opening.{Input, walk_of, list_ids, distinct, Opening, closed, opened, tips_in, open_walk, width_in}
use Rattle.walk.specs.Reach.{Mem}
use Rattle.walk.proofs.Tips.{opened_test, open_keep, open_tips_lem}
use Rattle.state.specs.Shapes.{shape_of}
use Rattle.refill.specs.Painted.{Timed}

pub opened-kept : (i : Input) (st : State) → open_walk i true ≡ opened st → st.kept ≡ true
unfolding waits sees
opened-kept i st e = open_keep i (λ ys s. s.kept ≡ true) (λ x ys s t h. h) (λ x ys s h. h) refl st e

-- ---- seconds

-- one more in a queue
entry-out : (b : ℤ → ℤ → Bool) (x : Id × ℤ) (l : List (Id × ℤ)) (y : Id × ℤ) → Mem y (queued b x l) → (y ≡ x) ⊎ Mem y l
unfolding queued
entry-out b x [] y m = Memᴰ.cases_cons m
entry-out b x (z ∷ zs) y m =
    by_cases (b x.1 z.1)
    (λ h. Memᴰ.cases_cons (rw h at m))
    (λ h. ⊎_elim (λ e. inr (Memᴰ.head e)) (λ k. ⊎_elim inl (λ r. inr (Memᴰ.tail r)) (entry-out b x zs y k)) (Memᴰ.cases_cons (rw h at m)))

-- an opening that goes on past something that is to be there
there : {A : Type 0} (o : Option A) (n : Refusal) (f : A → Opening) (st : State) → if_some o (closed n) f ≡ opened st → (a : A) × (o ≡ Some a) × (f a ≡ opened st)
there None n f st e = let z : ◌≡◌ {A = ℕ} 0 1 = cc in absurd (omega arith)
there (Some a) n f st e = (a, refl, e)

read-seconds : (w : World) (x : Id) (h : Header) (t : ℤ) → w.store x ≡ Some h → h.seconds ≡ Some t → t ≡ seconds_for w x
unfolding seconds_for store_seconds
read-seconds w x h t a b = rw (a, b)

-- each commit waits with the seconds of the store
abbrev Right : World → State → Type 0
Right w st = (x : Id) (t : ℤ) → Mem (x, t) st.queue → t ≡ seconds_for w x

module _ (v : Walk) (b : by_time v.settings ≡ true) where
  by-time : timed v.settings.sorting ≡ true
  unfolding by_time
  by-time = and_first (timed v.settings.sorting) (not (only_first v.settings)) b

  waits-right : (st : State) (x : Id) (s : ℤ) → s ≡ seconds_for v.world x → Right v.world st → Right v.world (waits v st x s)
  unfolding waits enter
  waits-right st x s e h y t m =
      ⊎_elim
      (λ k. ap {A = Id × ℤ} (λ q. q.1) k ∙ ap (λ (c : Bool). cond c s (pos 0)) b ∙ e ∙ ap (seconds_for v.world) (sym (ap {A = Id × ℤ} (λ q. q.0) k)))
      (h y t) (entry-out (goes_before v.settings) (x, cond (by_time v.settings) s (pos 0)) st.queue (y, t) m)

  sees-right : (st : State) (x : Id) → Right v.world st → Right v.world (sees st x)
  unfolding sees
  sees-right st x h = h

  tips-right : (xs : List Id) (st st' : State) → Right v.world st → tips_in v xs st ≡ opened st' → Right v.world st'
  unfolding tips_in
  tips-right [] st st' q e = let k : st ≡ st' = cc in subst (Right v.world) k q
  tips-right (x ∷ xs) st st' q e =
      let h = there (v.world.store x) TipNotFound _ st' (rw by-time at e) in
      let t = there h.0.seconds TipUnreadable _ st' h.2 in
      opened_test (Right v.world st') (not_before (cutoff_of v.settings.sorting) t.0) _ _ st' t.2
      (λ k. tips-right xs (waits v st x t.0) st' (waits-right st x t.0 (read-seconds v.world x h.0 t.0 h.1 t.1) q) k)
      (λ k. tips-right xs (sees st x) st' (sees-right st x q) k)

pub opened-timed : (i : Input) (st : State) → open_walk i true ≡ opened st → Timed (world_of (width_in i) i.store i.graph) (shape_of i) st
unfolding walk_of
opened-timed i st e b =
    tips-right (walk_of i) b (distinct [] (walk_of i).excluded (list_ids (width_in i) i.tips)) empty_state st (λ x t m. absurd (Memᴰ.not-nil m)) (open_tips_lem i st e)
