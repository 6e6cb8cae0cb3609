-- Numbers and ids as text: a number below a thousand has one, two or three digits, and each byte of an id two. Assumes nothing.
use mathlib.Core.Path.{◌≡◌, refl, ◌∙◌, ap}
use Prim.Native.Nat.{ℕ, suc, ◌+◌, ◌*◌, ◌/◌, ◌%◌, ◌≤◌, ◌<◌}
use mathlib.Core.List.{List, [], ◌∷◌, ◌++◌}
use native.Mathlib.Omega.{arith}
use lib.ListN.{length}
use borrow.Author.Tests.{lt-ltb, le-ltb}
use Rattle.swatch.specs.Text.{hex_digit, hex, decimal_in, decimal}

-- ---- an id

pub hex_append : (x y : List ℕ) → hex (x ++ y) ≡ hex x ++ hex y
unfolding hex
hex_append [] y = refl
hex_append (b ∷ x) y = ap (λ (l : List ℕ). hex_digit (b / 16) ∷ hex_digit (b % 16) ∷ l) (hex_append x y)

pub length_hex : (x : List ℕ) → length (hex x) ≡ 2 * length x
unfolding hex
length_hex [] = refl
length_hex (b ∷ x) = omega (arith, length_hex x)

-- ---- a number

-- one digit, or one digit behind the others
digits-one : (k n : ℕ) → n < 10 → decimal_in (suc k) n ≡ (48 + n) ∷ []
unfolding decimal_in
digits-one k n h = rw (lt-ltb n 10 h)

digits_more : (k n : ℕ) → 10 ≤ n → decimal_in (suc k) n ≡ decimal_in k (n / 10) ++ ((48 + n % 10) ∷ [])
unfolding decimal_in
digits_more k n h = rw (le-ltb n 10 h)

pub decimal-one : (n : ℕ) → n < 10 → decimal n ≡ (48 + n) ∷ []
unfolding decimal
decimal-one n h = digits-one 19 n h

pub decimal_two : (n : ℕ) → 10 ≤ n → n < 100 → decimal n ≡ (48 + n / 10 % 10) ∷ (48 + n % 10) ∷ []
unfolding decimal
decimal_two n h g =
    let e : n / 10 ≡ n / 10 % 10 = omega arith in
    digits_more 19 n h
    ∙ ap (λ (l : List ℕ). l ++ ((48 + n % 10) ∷ [])) (digits-one 18 (n / 10) (omega arith))
    ∙ ap (λ (d : ℕ). (48 + d) ∷ (48 + n % 10) ∷ []) e

pub decimal_three : (n : ℕ) → 100 ≤ n → n < 1000 → decimal n ≡ (48 + n / 100 % 10) ∷ (48 + n / 10 % 10) ∷ (48 + n % 10) ∷ []
unfolding decimal
decimal_three n h g =
    let e : n / 10 / 10 ≡ n / 100 % 10 = omega arith in
    digits_more 19 n (omega arith)
    ∙ ap (λ (l : List ℕ). l ++ ((48 + n % 10) ∷ [])) (digits_more 18 (n / 10) (omega arith))
    ∙ ap (λ (l : List ℕ). (l ++ ((48 + n / 10 % 10) ∷ [])) ++ ((48 + n % 10) ∷ [])) (digits-one 17 (n / 10 / 10) (omega arith))
    ∙ ap (λ (d : ℕ). (48 + d) ∷ (48 + n / 10 % 10) ∷ (48 + n % 10) ∷ []) e
