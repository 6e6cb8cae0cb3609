-- Laws of the number in a committer line. One digit at a place moves the value on by one digit; k digits stay below 10 ^ k, so
-- 18 digits fit a signed 64-bit number. Assumes nothing.
use Rattle.std.specs.Prelude.{None, Option, Some}
use mathlib.Core.Path.{◌≡◌, refl, sym, ap, ◌∙◌, subst}
use mathlib.Core.List.{List, [], ◌∷◌}
use mathlib.Core.Bool.{Bool, true, false, ◌&&◌}
use Prim.Native.Nat.{ℕ, zero, suc, ◌+◌, ◌-◌, ◌*◌, ◌^◌, ◌≤◌, ◌<◌}
use native.Mathlib.Numerals.{add-one}
use native.Mathlib.Nat.{pow-suc, pow-le-pow_right}
use native.Mathlib.Omega.{arith}
use lib.ListN.{length, get_or, drop, drop_of_length-le}
use lib.Seq.{drop-cons}
use lib.Dec.{eqb, leb}
use lib.IntN.{pos, neg_ℤ, ◌-ℤ◌, +ℤ_idl}
use mir.Syntax.{w64}
use mir.Val.{SFits, to_z}
use mir.Facts.{to_z_pos}
use borrow.Author.Tests.{eq-eqb, ne_eqb, le-leb, lt-leb, eqb-true, eqb-false, leb-true}
use Rattle.hash.proofs.Tests.{by_cases, clash, no-some, some_in, and_both, and_of}
use Rattle.actor.specs.Person.{digit, digits, number, plain, minus, signed, spaced}

-- a digit lies between 48 and 57
pub digit_bounds : (x : ℕ) → digit x ≡ true → (48 ≤ x) × (x ≤ 57)
digit_bounds x e =
    let b : (leb 48 x ≡ true) × (leb x 57 ≡ true) = and_both e in
    (leb-true 48 x b.0, leb-true x 57 b.1)

-- the byte in front: a space, no digit, one digit too many, a digit
module _ (n v x : ℕ) (xs : List ℕ) where
  front-space : x ≡ 32 → digits n v (x ∷ xs) ≡ Some v
  unfolding digits
  front-space e = rw (eq-eqb x 32 e)

  front-none : (x ≡ 32 → ⊥) → (digit x && leb 1 n) ≡ false → digits n v (x ∷ xs) ≡ None
  unfolding digits
  front-none e f = rw (ne_eqb x 32 e, f)

  front-digit : (x ≡ 32 → ⊥) → (digit x && leb 1 n) ≡ true → digits n v (x ∷ xs) ≡ digits (n - 1) (v * 10 + (x - 48)) xs
  unfolding digits
  front-digit e f = rw (ne_eqb x 32 e, f)

-- no digit, and no digit any more
not_digit : (d m : Bool) → d ≡ false → (d && m) ≡ false
not_digit d m e = rw e

no_more : (d m : Bool) → m ≡ false → (d && m) ≡ false
no_more true m e = e
no_more false m e = refl

-- the same at place i of b
module _ (n v i : ℕ) (b : List ℕ) (h : i < length b) where
  at_front : digits n v (drop i b) ≡ digits n v (get_or b i 0 ∷ drop (suc i) b)
  at_front = ap (digits n v) (drop-cons b i 0 h)

  pub at_space : get_or b i 0 ≡ 32 → digits n v (drop i b) ≡ Some v
  at_space e = at_front ∙ front-space n v (get_or b i 0) (drop (suc i) b) e

  pub at_other : (get_or b i 0 ≡ 32 → ⊥) → digit (get_or b i 0) ≡ false → digits n v (drop i b) ≡ None
  at_other e d = at_front ∙ front-none n v (get_or b i 0) (drop (suc i) b) e (not_digit (digit (get_or b i 0)) (leb 1 n) d)

  pub at_many : (get_or b i 0 ≡ 32 → ⊥) → n ≡ 0 → digits n v (drop i b) ≡ None
  at_many e z = at_front ∙ front-none n v (get_or b i 0) (drop (suc i) b) e (no_more (digit (get_or b i 0)) (leb 1 n) (lt-leb 1 n (omega arith)))

  pub at_digit : (get_or b i 0 ≡ 32 → ⊥) → digit (get_or b i 0) ≡ true → 1 ≤ n → digits n v (drop i b) ≡ digits (n - 1) (v * 10 + (get_or b i 0 - 48)) (drop (i + 1) b)
  at_digit e d l = rw add-one (at_front ∙ front-digit n v (get_or b i 0) (drop (suc i) b) e (and_of d (le-leb 1 n l)))

-- past the end
pub at_end : (n v i : ℕ) (b : List ℕ) → length b ≤ i → digits n v (drop i b) ≡ Some v
unfolding digits
at_end n v i b h = rw (drop_of_length-le b h)

-- i digits stay below 10 ^ i
pub ten_more : (i v d : ℕ) → v < 10 ^ i → d ≤ 9 → v * 10 + d < 10 ^ suc i
ten_more i v d h l = rw (pow-suc 10 i) (omega arith)

pub ten_most : (i n v : ℕ) → v < 10 ^ i → i ≤ n → v < 10 ^ n
ten_most i n v h l = let k : 10 ^ i ≤ 10 ^ n = pow-le-pow_right (omega arith) l in omega arith

-- at most 18 digits in all
pub digits-small : (n v : ℕ) (b : List ℕ) (text k : ℕ) → digits n v b ≡ Some text → v < 10 ^ k → k + n ≤ 18 → text < 10 ^ 18
unfolding digits
digits-small n v [] text k e h l = subst (λ (u : ℕ). u < 10 ^ 18) (some_in e) (ten_most k 18 v h (omega arith))
digits-small n v (x ∷ xs) text k e h l =
    by_cases (eqb x 32)
    (λ s. subst (λ (u : ℕ). u < 10 ^ 18) (some_in (sym (front-space n v x xs (eqb-true x 32 s)) ∙ e)) (ten_most k 18 v h (omega arith)))
    (λ s.
    by_cases (digit x && leb 1 n)
    (λ m.
    let p : (digit x ≡ true) × (leb 1 n ≡ true) = and_both m in
    let d = digit_bounds x p.0 in
    let q = leb-true 1 n p.1 in
    let f = sym (front-digit n v x xs (eqb-false x 32 s) m) ∙ e in
    digits-small (n - 1) (v * 10 + (x - 48)) xs text (suc k) f (ten_more k v (x - 48) h (omega arith)) (omega arith))
    (λ m. no-some (sym (front-none n v x xs (eqb-false x 32 s) m) ∙ e)))

-- a number begins with a digit
pub number_none : (b : List ℕ) → digit (get_or b 0 0) ≡ false → number b ≡ None
unfolding number
number_none [] d = refl
number_none (x ∷ xs) d = rw d

pub number_digits : (b : List ℕ) → digit (get_or b 0 0) ≡ true → number b ≡ digits 18 0 b
unfolding number
number_digits [] d = clash d refl
number_digits (x ∷ xs) d = rw d

pub number_small : (b : List ℕ) (v : ℕ) → number b ≡ Some v → v < 10 ^ 18
number_small b v e =
    by_cases (digit (get_or b 0 0))
    (λ d. digits-small 18 0 b v 0 (sym (number_digits b d) ∙ e) (omega arith) (omega arith))
    (λ d. no-some (sym (number_none b d) ∙ e))

-- a sign, and a space
pub signed_minus : (b : List ℕ) → get_or b 0 0 ≡ 45 → signed b ≡ minus (number (drop 1 b))
unfolding signed
signed_minus [] e = absurd (omega arith)
signed_minus (x ∷ xs) e = rw (eq-eqb x 45 e)

pub signed_plain : (b : List ℕ) → (get_or b 0 0 ≡ 45 → ⊥) → signed b ≡ plain (number b)
unfolding signed number
signed_plain [] e = refl
signed_plain (x ∷ xs) e = rw (ne_eqb x 45 e)

pub spaced_yes : (b : List ℕ) → get_or b 0 0 ≡ 32 → spaced b ≡ signed (drop 1 b)
unfolding spaced
spaced_yes [] e = absurd (omega arith)
spaced_yes (x ∷ xs) e = rw (eq-eqb x 32 e)

pub spaced_no : (b : List ℕ) → (get_or b 0 0 ≡ 32 → ⊥) → spaced b ≡ None
unfolding spaced
spaced_no [] e = refl
spaced_no (x ∷ xs) e = rw (ne_eqb x 32 e)
