-- Laws of the tests that the walk is written with, each by the cases of its tests: sets of ids, pairs, painting's queue, counting.
-- Assumes nothing.
use mathlib.Core.Path.{◌≡◌, refl, sym, ◌∙◌}
use mathlib.Core.Logic.{◌⊎◌, inl, inr, ⊎_elim}
use Prim.Native.Nat.{ℕ, ◌<◌, ◌≤◌}
use mathlib.Core.Bool.{Bool, true, false, not, ◌||◌, cond}
use mathlib.Core.List.Memᴰ
use mathlib.Core.List.{List, [], ◌∷◌, Memᴰ}
use native.Mathlib.Omega.{arith}
use lib.Dec.{eqb, ltb}
use lib.IntN.{ℤ, pos, negsuc}
use borrow.Author.Tests.{ltb-true, ltb-false, eqb-true, lt-ltb, le-ltb, eq-eqb, ne_eqb}
use Rattle.hash.specs.Bytes.{Id, eq_id}
use Rattle.hash.proofs.Tests.{by_cases, clash, not_yes}
use Rattle.hash.proofs.Ids.{eq_id_refl, eq_id_eq}
use lib.Signed.{lt_z}
use Rattle.walk.specs.Lookup.{World, row, corrupt, Pair, lt_pair}
use Rattle.walk.specs.State.{add}
use Rattle.walk.specs.Painting.{also, add_pending}

-- ---- sets of ids

pub add_self : (f : Id → Bool) (x : Id) → add f x x ≡ true
unfolding add
add_self f x = rw (eq_id_refl x)

pub add-keeps : (f : Id → Bool) (x y : Id) → f y ≡ true → add f x y ≡ true
unfolding add
add-keeps f x y e = by_cases (eq_id y x) (λ h. rw h) (λ h. rw h e)

pub add-cases : (f : Id → Bool) (x y : Id) → add f x y ≡ true → (y ≡ x) ⊎ (f y ≡ true)
unfolding add
add-cases f x y e = by_cases (eq_id y x) (λ h. inl (eq_id_eq y x h)) (λ h. inr (rw h at e))

pub add-other : (f : Id → Bool) (x y : Id) → eq_id y x ≡ false → add f x y ≡ f y
unfolding add
add-other f x y h = rw h

pub also-keeps : (b : Bool) (f : Id → Bool) (x y : Id) → f y ≡ true → also b f x y ≡ true
unfolding also
also-keeps true f x y e = add-keeps f x y e
also-keeps false f x y e = e

pub also_self : (b : Bool) (f : Id → Bool) (x : Id) → b ≡ true → also b f x x ≡ true
unfolding also
also_self true f x e = add_self f x
also_self false f x e = clash e refl

pub also-cases : (b : Bool) (f : Id → Bool) (x y : Id) → also b f x y ≡ true → (f y ≡ true) ⊎ ((b ≡ true) × (y ≡ x))
unfolding also
also-cases true f x y e = elim (add-cases f x y e) [ inl h ↦ inr (refl, h) | inr h ↦ inl h ]
also-cases false f x y e = inl e

pub also-other : (b : Bool) (f : Id → Bool) (x y : Id) → eq_id y x ≡ false → also b f x y ≡ f y
unfolding also
also-other true f x y h = add-other f x y h
also-other false f x y h = refl

-- ---- pairs

pub lt_z_trans : (a b c : ℤ) → lt_z a b ≡ true → lt_z b c ≡ true → lt_z a c ≡ true
lt_z_trans (pos a) (pos b) (pos c) p q = lt-ltb a c (omega (arith, ltb-true a b p, ltb-true b c q))
lt_z_trans (pos a) (pos b) (negsuc c) p q = q
lt_z_trans (pos a) (negsuc b) c p q = clash p refl
lt_z_trans (negsuc a) b (pos c) p q = refl
lt_z_trans (negsuc a) (pos b) (negsuc c) p q = clash q refl
lt_z_trans (negsuc a) (negsuc b) (negsuc c) p q = lt-ltb c a (omega (arith, ltb-true b a p, ltb-true c b q))

pub lt_z_asym : (a b : ℤ) → lt_z a b ≡ true → lt_z b a ≡ false
lt_z_asym (pos a) (pos b) p = le-ltb b a (omega (arith, ltb-true a b p))
lt_z_asym (pos a) (negsuc b) p = clash p refl
lt_z_asym (negsuc a) (pos b) p = refl
lt_z_asym (negsuc a) (negsuc b) p = le-ltb a b (omega (arith, ltb-true b a p))

-- what it is for a pair to be less
unfoldable pub Less : Pair → Pair → Type 0
Less a b = (a.generation < b.generation) ⊎ ((a.generation ≡ b.generation) × (lt_z a.time b.time ≡ true))

pub less_of : (a b : Pair) → lt_pair a b ≡ true → Less a b
unfolding lt_pair Less
less_of a b e =
    by_cases (ltb a.generation b.generation) (λ h. inl (ltb-true _ _ h)) λ h.
    by_cases (eqb a.generation b.generation) (λ k. inr (eqb-true _ _ k, rw (h, k) at e)) (λ k. clash (rw (h, k) at e) refl)

pub of_less : (a b : Pair) → Less a b → lt_pair a b ≡ true
unfolding lt_pair Less
of_less a b (inl h) = rw (lt-ltb _ _ h)
of_less a b (inr h) = rw (le-ltb a.generation b.generation (omega (arith, h.0)), eq-eqb _ _ h.0, h.1)

-- the three ways in which two pairs compare
pub pair-below : (a b : Pair) → ltb a.generation b.generation ≡ true → lt_pair a b ≡ true
unfolding lt_pair
pair-below a b h = rw h

pub pair-above : (a b : Pair) → ltb b.generation a.generation ≡ true → lt_pair a b ≡ false
unfolding lt_pair
pair-above a b h =
    let l : b.generation < a.generation = ltb-true _ _ h in
    rw (le-ltb a.generation b.generation (omega arith), ne_eqb a.generation b.generation (λ e. omega arith))

pub pair-level : (a b : Pair) → ltb a.generation b.generation ≡ false → ltb b.generation a.generation ≡ false → lt_pair a b ≡ lt_z a.time b.time
unfolding lt_pair
pair-level a b h k =
    let e : a.generation ≡ b.generation = omega (arith, ltb-false a.generation b.generation h, ltb-false b.generation a.generation k) in
    rw (h, eq-eqb a.generation b.generation e)

pub lt_pair_trans : (a b c : Pair) → lt_pair a b ≡ true → lt_pair b c ≡ true → lt_pair a c ≡ true
unfolding Less
lt_pair_trans a b c p q = of_less a c (go (less_of a b p) (less_of b c q))
  where
    go : Less a b → Less b c → Less a c
    go (inl h) (inl k) = inl (omega arith)
    go (inl h) (inr k) = inl (omega (arith, k.0))
    go (inr h) (inl k) = inl (omega (arith, h.0))
    go (inr h) (inr k) = inr (h.0 ∙ k.0, lt_z_trans a.time b.time c.time h.1 k.1)

pub lt_pair_asym : (a b : Pair) → lt_pair a b ≡ true → lt_pair b a ≡ false
unfolding Less
lt_pair_asym a b p = not_yes (λ q. go (less_of a b p) (less_of b a q))
  where
    go : Less a b → Less b a → ⊥
    go (inl h) (inl k) = omega arith
    go (inl h) (inr k) = omega (arith, k.0)
    go (inr h) (inl k) = omega (arith, h.0)
    go (inr h) (inr k) = clash h.1 (lt_z_asym b.time a.time k.1)

-- ---- the queue

-- nothing in q is greater than p
unfoldable pub Below : Pair → List (Pair × Id) → Type 0
Below p q = (e : Pair × Id) → Memᴰ e q → lt_pair p e.0 ≡ false

abbrev pub Sorted : List (Pair × Id) → Type 0
Sorted [] = Unit {0}
Sorted (e ∷ q) = Below e.0 q × Sorted q

pub add_pending-cases : (p : Pair) (x : Id) (q : List (Pair × Id)) (e : Pair × Id) → Memᴰ e (add_pending p x q) → (e ≡ (p, x)) ⊎ Memᴰ e q
unfolding add_pending
add_pending-cases p x [] e m = inl (elim (Memᴰ.cases_cons m) [ inl h ↦ h | inr h ↦ absurd (Memᴰ.not-nil h) ])
add_pending-cases p x (y ∷ ys) e m =
    by_cases (lt_pair y.0 p)
    (λ h. Memᴰ.cases_cons (rw h at m))
    (λ h. ⊎_elim
    (λ k. inr (Memᴰ.head k))
    (λ k. ⊎_elim inl (λ r. inr (Memᴰ.tail r)) (add_pending-cases p x ys e k))
    (Memᴰ.cases_cons (rw h at m)))

pub add_pending-new : (p : Pair) (x : Id) (q : List (Pair × Id)) → Memᴰ (p, x) (add_pending p x q)
unfolding add_pending
add_pending-new p x [] = Memᴰ.head refl
add_pending-new p x (y ∷ ys) =
    by_cases (lt_pair y.0 p) (λ h. rw h (Memᴰ.head refl)) (λ h. rw h (Memᴰ.tail (add_pending-new p x ys)))

pub add_pending-old : (p : Pair) (x : Id) (q : List (Pair × Id)) (e : Pair × Id) → Memᴰ e q → Memᴰ e (add_pending p x q)
unfolding add_pending
add_pending-old p x [] e m = absurd (Memᴰ.not-nil m)
add_pending-old p x (y ∷ ys) e m =
    by_cases (lt_pair y.0 p)
    (λ h. rw h (Memᴰ.tail m))
    (λ h. rw h (⊎_elim (λ k. Memᴰ.head k) (λ k. Memᴰ.tail (add_pending-old p x ys e k)) (Memᴰ.cases_cons m)))

pub add_pending-sorted : (p : Pair) (x : Id) (q : List (Pair × Id)) → Sorted q → Sorted (add_pending p x q)
unfolding add_pending Below
add_pending-sorted p x [] s = (λ e m. absurd (Memᴰ.not-nil m), tt)
add_pending-sorted p x (y ∷ ys) s =
    by_cases (lt_pair y.0 p)
    (λ h. rw h (
      (λ e m. ⊎_elim
          (λ k. rw k (lt_pair_asym y.0 p h))
          (λ k. not_yes (λ l. clash (lt_pair_trans y.0 p e.0 h l) (s.0 e k)))
          (Memᴰ.cases_cons m)),
      s,
    ))
    (λ h. rw h ((λ e m. ⊎_elim (λ k. rw k h) (λ k. s.0 e k) (add_pending-cases p x ys e m)), add_pending-sorted p x ys s.1))

pub or_neither : (a b : Bool) → (a || b) ≡ false → (a ≡ false) × (b ≡ false)
or_neither true b e = clash refl e
or_neither false b e = (refl, e)

pub not_yes_no : (b : Bool) → not b ≡ true → b ≡ false
not_yes_no true e = clash refl (sym e)
not_yes_no false e = refl

pub not_no_yes : (b : Bool) → b ≡ false → not b ≡ true
not_no_yes true e = clash refl e
not_no_yes false e = refl

-- ---- counting

-- 1 where a test is false
abbrev pub lack : Bool → ℕ
lack true = 0
lack false = 1

pub lack_le : (a b : Bool) → (a ≡ true → b ≡ true) → lack b ≤ lack a
lack_le true true h = omega arith
lack_le true false h = clash (h refl) refl
lack_le false true h = omega arith
lack_le false false h = omega arith

pub lack_lt : (a b : Bool) → a ≡ false → b ≡ true → lack b < lack a
lack_lt true b e k = clash refl e
lack_lt false true e k = omega arith
lack_lt false false e k = clash k refl

-- what holds of both ways holds of a conditional
pub cond_both {ℓ κ} : {A : Type ℓ} (Q : A → Type κ) (b : Bool) (x y : A) → Q x → Q y → Q (cond b x y)
cond_both Q true x y f g = f
cond_both Q false x y f g = g

-- ---- graph rows

-- the seconds that a row gives a parent are those of the parent's own row: so it is in every commit-graph file with a good layout
unfoldable pub Coherent : World → Type 0
Coherent w = (x : Id) (ps : List (Id × ℤ)) (l : ℕ) (s : ℤ) → w.graph x ≡ row ps l s → (p : Id × ℤ) → Memᴰ p ps
    → (w.graph p.0 ≡ corrupt) ⊎ ((qs : List (Id × ℤ)) × (m : ℕ) × (w.graph p.0 ≡ row qs m p.1))
