-- The test of all that is within d steps, parent by parent, and that it says what it should: it holds exactly where every commit within d steps is
-- readable. Assumes nothing.
use mathlib.Core.Path.{◌≡◌, refl, sym, ◌∙◌, ap, subst}
use mathlib.Core.Logic.{◌↔◌, ⊎_elim}
use Prim.Native.Nat.{ℕ, zero, suc, ◌<◌, ◌≤◌}
use mathlib.Core.Bool.{Bool, true, false, cond}
use mathlib.Core.List.Memᴰ
use mathlib.Core.List.{List, [], ◌∷◌}
use native.Mathlib.Omega.{arith}
use lib.ListN.{length, get_or}
use Rattle.hash.specs.Bytes.{Id}
use Rattle.hash.proofs.Tests.{by_cases, clash, guard_test, guarded, guard_of}
use Rattle.walk.specs.Lookup.{World, Read, fail, good, from_store}
use Rattle.walk.specs.Reach.{Mem, links}
use Rattle.walk.specs.Demand.{Readable}
use Rattle.withinreach.specs.Within.{is_good, readable, every, readable_within, Within, here, step}

-- ---- parent by parent

module _ (f : Id → Bool) where
  pub every-not : (l : List Id) (j : ℕ) → j < length l → f (get_or l j []) ≡ false → every f l ≡ false
  unfolding every
  every-not [] j h e = absurd (omega arith)
  every-not (p ∷ ps) zero h e = ap (λ (b : Bool). cond b (every f ps) false) e
  every-not (p ∷ ps) (suc j) h e = later (f p) (every-not ps j (omega arith) e)
    where
      later : (b : Bool) → every f ps ≡ false → cond b (every f ps) false ≡ false
      later true r = r
      later false r = refl

  pub every-so : (l : List Id) → ((j : ℕ) → j < length l → f (get_or l j []) ≡ true) → every f l ≡ true
  unfolding every
  every-so [] h = refl
  every-so (p ∷ ps) h = ap (λ (b : Bool). cond b (every f ps) false) (h zero (omega arith)) ∙ every-so ps (λ j l. h (suc j) (omega arith))

  every-mem : (l : List Id) → every f l ≡ true → (p : Id) → Mem p l → f p ≡ true
  unfolding every
  every-mem [] e p m = absurd (Memᴰ.not-nil m)
  every-mem (q ∷ qs) e p m =
      ⊎_elim (λ z. ap f z ∙ guard_test (f q) (every f qs) e) (λ z. every-mem qs (guarded (f q) (every f qs) e) p z) (Memᴰ.cases_cons m)

  every_of : (l : List Id) → ((p : Id) → Mem p l → f p ≡ true) → every f l ≡ true
  unfolding every
  every_of [] h = refl
  every_of (q ∷ qs) h = guard_of (f q) (every f qs) (h q (Memᴰ.head refl)) (every_of qs (λ p m. h p (Memᴰ.tail m)))

-- ---- a step

module _ (w : World) (x : Id) where
  pub within-unreadable : (d : ℕ) → readable w x ≡ false → readable_within d w x ≡ false
  unfolding readable_within
  within-unreadable zero e = e
  within-unreadable (suc d) e = ap (λ (b : Bool). cond b (every (λ p. readable_within d w p) (links w x)) false) e

  pub within-still : (d : ℕ) → d ≡ 0 → readable_within d w x ≡ readable w x
  unfolding readable_within
  within-still zero e = refl
  within-still (suc d) e = absurd (omega arith)

  module _ (good-here : readable w x ≡ true) where
    pub within-turn : (d : ℕ) → readable_within (suc d) w x ≡ every (λ p. readable_within d w p) (links w x)
    unfolding readable_within
    within-turn d = ap (λ (b : Bool). cond b (every (λ p. readable_within d w p) (links w x)) false) good-here

    pub within-not : (d j : ℕ) → j < length (links w x) → readable_within d w (get_or (links w x) j []) ≡ false → readable_within (suc d) w x ≡ false
    within-not d j h e = within-turn d ∙ every-not (λ p. readable_within d w p) (links w x) j h e

    pub within-so : (d : ℕ) → ((j : ℕ) → j < length (links w x) → readable_within d w (get_or (links w x) j []) ≡ true) → readable_within (suc d) w x ≡ true
    within-so d h = within-turn d ∙ every-so (λ p. readable_within d w p) (links w x) h

-- ---- what is readable

good_test : (r : Read) → is_good r ≡ true → (ps : List Id) × (p : _) × (r ≡ good ps p)
good_test (fail n) e = clash e refl
good_test (good ps p) e = (ps, p, refl)

pub readable-is : (w : World) (x : Id) → readable w x ≡ true → Readable w x
unfolding readable Readable
readable-is w x e = good_test (from_store (w.store x)) e

pub is-readable : (w : World) (x : Id) → Readable w x → readable w x ≡ true
unfolding readable Readable
is-readable w x h = ap is_good h.2

-- ---- the test says what it should

within-down : (w : World) (y : Id) (d : ℕ) (x : Id) → Within w y d x → readable_within d w x ≡ true → readable w y ≡ true
unfolding readable_within
within-down w y zero x (here e) h = subst (λ (z : Id). readable w z ≡ true) e h
within-down w y (suc d) x (here e) h = subst (λ (z : Id). readable w z ≡ true) e (guard_test (readable w x) (every (λ p. readable_within d w p) (links w x)) h)
within-down w y (suc d) x (step {p = p} m v) h =
    within-down w y d p v (every-mem (λ p. readable_within d w p) (links w x) (guarded (readable w x) (every (λ p. readable_within d w p) (links w x)) h) p m)

within_up : (w : World) (d : ℕ) (x : Id) → ((y : Id) → Within w y d x → readable w y ≡ true) → readable_within d w x ≡ true
unfolding readable_within
within_up w zero x h = h x (here refl)
within_up w (suc d) x h =
    guard_of (readable w x) (every (λ p. readable_within d w p) (links w x)) (h x (here refl))
    (every_of (λ p. readable_within d w p) (links w x) (λ p m. within_up w d p (λ y v. h y (step m v))))

pub within-says : (w : World) (d : ℕ) (x : Id) → (readable_within d w x ≡ true) ↔ ((y : Id) → Within w y d x → Readable w y)
within-says w d x = (λ e y v. readable-is w y (within-down w y d x v e), λ h. within_up w d x (λ y v. is-readable w y (h y v)))
