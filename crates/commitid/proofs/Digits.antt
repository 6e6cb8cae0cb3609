-- The digits of a number, set down from the last to the first: the header of a commit is made at the end of a buffer, since the last digit is the
-- rest by 10 and the others are those of the quotient. Assumes nothing.
use mathlib.Core.Path.{◌≡◌, refl, sym, ◌∙◌, ap}
use Prim.Native.Nat.{ℕ, zero, suc, ◌+◌, ◌-◌, ◌*◌, ◌/◌, ◌%◌, ◌^◌, ◌≤◌, ◌<◌}
use mathlib.Core.List.{List, [], ◌∷◌}
use native.Mathlib.Omega.{arith}
use native.Mathlib.Nat.{pow-suc}
use lib.ListN.{length, drop, set, length-set}
use borrow.Author.Tests.{lt-ltb, le-ltb}
use Rattle.hash.specs.Bytes.{set_down}
use Rattle.commitid.specs.Name.{digits_before, commit_header}
use Rattle.digest.proofs.Lists.{drop_set, drop_down}

pub digits_last : (k x : ℕ) (s : List ℕ) → x < 10 → digits_before k x s ≡ (48 + x % 10) ∷ s
unfolding digits_before
digits_last zero x s h = refl
digits_last (suc k) x s h = simp (lt-ltb x 10 h)

pub digits-next : (k x : ℕ) (s : List ℕ) → 10 ≤ x → x ≤ k → digits_before k x s ≡ digits_before (k - 1) (x / 10) ((48 + x % 10) ∷ s)
unfolding digits_before
digits-next zero x s h g = absurd (omega arith)
digits-next (suc k) x s h g =
    let e : k ≡ suc k - 1 = omega arith in simp (le-ltb x 10 h) (ap (λ (j : ℕ). digits_before j (x / 10) ((48 + x % 10) ∷ s)) e)

-- a number below 10 to the power j, and not below 10, has at least two digits
pub power_next : (x j : ℕ) → x < 10 ^ j → 10 ≤ x → (2 ≤ j) × (x / 10 < 10 ^ (j - 1))
power_next x zero h g = absurd (omega arith)
power_next x (suc zero) h g = absurd (omega arith)
power_next x (suc (suc j)) h g =
    let e : suc (suc j) - 1 ≡ suc j = omega arith in
    let l : x < 10 ^ suc j * 10 = rw (pow-suc 10 (suc j)) at h in
    (omega arith, rw e (omega arith))

-- what is set down of the digits of n before s: those left, of x, go in front of the bytes of b from i on
pub record Left (n : ℕ) (b : List ℕ) (i x : ℕ) : Type 0 where
  pub size : length b ≡ 28
  pub low : 8 ≤ i
  pub high : i ≤ 27
  pub power : x < 10 ^ (i - 7)
  pub fuel : ℕ
  pub enough : x ≤ fuel
  pub says : digits_before n n (0 ∷ []) ≡ digits_before fuel x (drop i b)

pub left-first : (b : List ℕ) (n : ℕ) → length b ≡ 28 → n < 2 ^ 64 → Left n (set b 27 0) 27 n
left-first b n h g =
    record {
      size = length-set b 27 0 ∙ h;
      low = omega arith;
      high = omega arith;
      power = omega arith;
      fuel = n;
      enough = omega arith;
      says = ap (digits_before n n) (sym (drop_set b 27 0 (omega (arith, h)) ∙ ap (λ (s : List ℕ). 0 ∷ s) (lib.ListN.drop_of_length-le b {i = 28} (omega (arith, h)))));
    }

module _ {n : ℕ} {b : List ℕ} {i x : ℕ} (l : Left n b i x) (v : ℕ) (e : v ≡ 48 + x % 10) where
  stored : drop (i - 1) (set b (i - 1) v) ≡ (48 + x % 10) ∷ drop i b
  stored =
      let k : suc (i - 1) ≡ i = omega (arith, l.low) in
      drop_set b (i - 1) v (omega (arith, l.high, l.low, l.size)) ∙ (λ p. e p ∷ drop (k p) b)

  pub left-next : 10 ≤ x → Left n (set b (i - 1) v) (i - 1) (x / 10)
  left-next h =
      let j : (2 ≤ i - 7) × (x / 10 < 10 ^ (i - 7 - 1)) = power_next x (i - 7) l.power h in
      let q : i - 7 - 1 ≡ i - 1 - 7 = omega arith in
      record {
        size = length-set b (i - 1) v ∙ l.size;
        low = omega (arith, j.0);
        high = omega (arith, l.high);
        power = rw q at j.1;
        fuel = l.fuel - 1;
        enough = omega (arith, l.enough);
        says = l.says ∙ digits-next l.fuel x (drop i b) h l.enough ∙ ap (digits_before (l.fuel - 1) (x / 10)) (sym stored);
      }

  -- the last digit, and the word before it
  pub left-last : x < 10 → drop (i - 1 - 7) (set_down (set b (i - 1) v) (i - 1 - 7) (99 ∷ 111 ∷ 109 ∷ 109 ∷ 105 ∷ 116 ∷ 32 ∷ [])) ≡ commit_header n
  unfolding commit_header
  left-last h =
      let k : i - 1 - 7 + 7 ≡ i - 1 = omega (arith, l.low) in
      drop_down (set b (i - 1) v) (i - 1 - 7) (99 ∷ 111 ∷ 109 ∷ 109 ∷ 105 ∷ 116 ∷ 32 ∷ []) (simp length-set (omega (arith, l.low, l.high, l.size)))
      ∙ ap (λ (j : ℕ). 99 ∷ 111 ∷ 109 ∷ 109 ∷ 105 ∷ 116 ∷ 32 ∷ drop j (set b (i - 1) v)) k
      ∙ ap (λ (s : List ℕ). 99 ∷ 111 ∷ 109 ∷ 109 ∷ 105 ∷ 116 ∷ 32 ∷ s) (stored ∙ sym (l.says ∙ digits_last l.fuel x (drop i b) h))
