-- What visits do to the numbers: an id that comes to wait was not seen before, so what waits and what is unseen together never grow; and
-- each that is admitted waits. Assumes nothing.
use mathlib.Core.Path.{◌≡◌, refl, sym, ◌∙◌, ap}
use mathlib.Core.Logic.{⊎_elim}
use Prim.Native.Nat.{ℕ, ◌+◌, ◌≤◌, ◌<◌}
use mathlib.Core.Bool.{Bool, true, false, cond, ◌||◌}
use mathlib.Core.List.Memᴰ
use mathlib.Core.List.{List, [], ◌∷◌}
use native.Mathlib.Omega.{arith}
use lib.ListN.{length}
use lib.IntN.{ℤ, pos}
use Rattle.hash.specs.Bytes.{Id}
use Rattle.hash.proofs.Tests.{by_cases}
use Rattle.walk.specs.Settings.{goes_before, by_time}
use Rattle.walk.specs.State.{Walk, State, add, enter, sees, waits}
use Rattle.walk.specs.Next.{admits, visit, visit_all}
use Rattle.walk.specs.Reach.{Mem}
use Rattle.walk.proofs.Laws.{or_neither, add_self, add-keeps, lack, lack_le}
use Rattle.walk.proofs.Queue.{length_queued}

-- ---- how many ids are not seen

unfoldable pub unseen : (Id → Bool) → List Id → ℕ
unseen f [] = 0
unseen f (u ∷ us) = lack (f u) + unseen f us

pub unseen_le : (f : Id → Bool) (x : Id) (us : List Id) → unseen (add f x) us ≤ unseen f us
unfolding unseen
unseen_le f x [] = omega arith
unseen_le f x (u ∷ us) = omega (arith, lack_le (f u) (add f x u) (add-keeps f x u), unseen_le f x us)

pub unseen_lt : (f : Id → Bool) (x : Id) (us : List Id) → f x ≡ false → Mem x us → unseen (add f x) us < unseen f us
unfolding unseen
unseen_lt f x [] n m = absurd (Memᴰ.not-nil m)
unseen_lt f x (u ∷ us) n m =
    ⊎_elim
    (λ e. let a : lack (f u) ≡ 1 = ap lack (ap f (sym e) ∙ n) in
    let b : lack (add f x u) ≡ 0 = ap lack (ap (add f x) (sym e) ∙ add_self f x) in
    omega (arith, unseen_le f x us))
    (λ k. omega (arith, lack_le (f u) (add f x u) (add-keeps f x u), unseen_lt f x us n k))
    (Memᴰ.cases_cons m)

unfoldable pub left : List Id → State → ℕ
left us st = length st.queue + unseen st.seen us

visit-left : (v : Walk) (us : List Id) (st : State) (p : Id) (t : ℤ) → Mem p us → left us (visit v st p t) ≤ left us st
unfolding visit waits sees enter left
visit-left v us st p t m =
    go (st.frontier p || st.seen p) (admits v p t) (λ h. (or_neither (st.frontier p) (st.seen p) h).1)
  where
    go : (a b : Bool) → (a ≡ false → st.seen p ≡ false) → left us (cond a st (cond b (waits v st p t) (sees st p))) ≤ left us st
    go true b n = omega arith
    go false true n = omega (arith, length_queued (goes_before v.settings) (p, cond (by_time v.settings) t (pos 0)) st.queue, unseen_lt st.seen p us (n refl) m)
    go false false n = omega (arith, unseen_le st.seen p us)

pub visit_all-left : (v : Walk) (us : List Id) (ps : List (Id × ℤ)) (st : State) → ((p : Id × ℤ) → Mem p ps → Mem p.0 us) → left us (visit_all v st ps) ≤ left us st
unfolding visit_all
visit_all-left v us [] st i = omega arith
visit_all-left v us (p ∷ ps) st i =
    omega (arith, visit_all-left v us ps (visit v st p.0 p.1) (λ q k. i q (Memᴰ.tail k)), visit-left v us st p.0 p.1 (i p (Memᴰ.head refl)))

visit-painted : (v : Walk) (st : State) (p : Id) (t : ℤ) → (visit v st p t).painted ≡ st.painted
unfolding visit waits sees
visit-painted v st p t = by_cases (st.frontier p || st.seen p) (λ h. rw h) (λ h. by_cases (admits v p t) (λ k. rw (h, k)) (λ k. rw (h, k)))

pub visit_all-painted : (v : Walk) (ps : List (Id × ℤ)) (st : State) → (visit_all v st ps).painted ≡ st.painted
unfolding visit_all
visit_all-painted v [] st = refl
visit_all-painted v (p ∷ ps) st = visit_all-painted v ps (visit v st p.0 p.1) ∙ visit-painted v st p.0 p.1

pub unseen_bound : (f : Id → Bool) (us : List Id) → unseen f us ≤ length us
unfolding unseen
unseen_bound f [] = omega arith
unseen_bound f (u ∷ us) = by_cases (f u) (λ h. rw h (omega (arith, unseen_bound f us))) (λ h. rw h (omega (arith, unseen_bound f us)))

-- ---- what is admitted waits

visit-sum : (v : Walk) (st : State) (p : Id) (t : ℤ) → (visit v st p t).admitted + length st.queue ≡ st.admitted + length (visit v st p t).queue
unfolding visit waits sees enter
visit-sum v st p t = go (st.frontier p || st.seen p) (admits v p t)
  where
    go : (a b : Bool) → (cond a st (cond b (waits v st p t) (sees st p))).admitted + length st.queue ≡ st.admitted + length (cond a st (cond b (waits v st p t) (sees st p))).queue
    go true b = refl
    go false true = omega (arith, length_queued (goes_before v.settings) (p, cond (by_time v.settings) t (pos 0)) st.queue)
    go false false = refl

visit-struck : (v : Walk) (st : State) (p : Id) (t : ℤ) → (visit v st p t).struck ≡ st.struck
unfolding visit waits sees
visit-struck v st p t = by_cases (st.frontier p || st.seen p) (λ h. rw h) (λ h. by_cases (admits v p t) (λ k. rw (h, k)) (λ k. rw (h, k)))

pub visit_all-sum : (v : Walk) (ps : List (Id × ℤ)) (st : State)
    → ((visit_all v st ps).admitted + length st.queue ≡ st.admitted + length (visit_all v st ps).queue) × ((visit_all v st ps).struck ≡ st.struck)
unfolding visit_all
visit_all-sum v [] st = (refl, refl)
visit_all-sum v (p ∷ ps) st =
    let a = visit_all-sum v ps (visit v st p.0 p.1) in
    (omega (arith, a.0, visit-sum v st p.0 p.1), a.1 ∙ visit-struck v st p.0 p.1)
