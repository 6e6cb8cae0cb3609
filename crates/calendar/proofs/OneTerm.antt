-- What the number of a term means: it is that of a term that has the seconds, unless none has them; and of a good list at most one term has
-- them. Assumes nothing.
use mathlib.Core.Path.{◌≡◌, refl, sym, ◌∙◌, ap, subst}
use mathlib.Core.Bool.{Bool, true, false, cond, ◌&&◌}
use mathlib.Core.List.{List, [], ◌∷◌}
use Prim.Native.Nat.{ℕ, zero, suc, ◌+◌, ◌*◌, ◌/◌, ◌≤◌, ◌<◌}
use native.Mathlib.Omega.{arith}
use lib.ListN.{length}
use lib.Dec.{leb}
use lib.IntN.{ℤ, pos, negsuc}
use Rattle.hash.proofs.Tests.{by_cases, clash, and_second}
use Rattle.calendar.specs.Months.{first_day}
use Rattle.calendar.specs.Terms.{in_term, rise, good_terms, term_at, first_month, last_month, has_seconds}
use Rattle.calendar.proofs.Days.{day_of, negative}
use Rattle.calendar.proofs.Rising.{found, further}

pub good-rise : (l : List ℕ) → good_terms l ≡ true → rise 0 l ≡ true
unfolding good_terms
good-rise l t = and_second (leb (length l) 48) (rise 0 l) t

-- the term with seconds s is the one that termAt gives
pub is_term : (l : List ℕ) (s : ℤ) (k : ℕ) → good_terms l ≡ true → k < length l / 2 → has_seconds l k s ≡ true → term_at l s ≡ k
is_term l (pos n) k g h t = let d = day_of (first_month l k) (last_month l k) n t in found l 0 n k (good-rise l g) h d.0 d.1
is_term l (negsuc n) k g h t = clash t (negative (first_month l k) (last_month l k) n)

-- a good list has at most one term for given seconds
pub one_term : (l : List ℕ) (s : ℤ) (j k : ℕ) → good_terms l ≡ true → j < length l / 2 → k < length l / 2 → has_seconds l j s ≡ true → has_seconds l k s ≡ true → j ≡ k
one_term l s j k g hj hk tj tk = sym (is_term l s j g hj tj) ∙ is_term l s k g hk tk

chosen : (a b : ℕ) (l : List ℕ) (s : ℤ) → in_term a b s ≡ true → term_at (a ∷ b ∷ l) s ≡ 0
unfolding term_at
chosen a b l s e = ap (λ (c : Bool). cond c 0 (suc (term_at l s))) e

passed : (a b : ℕ) (l : List ℕ) (s : ℤ) → in_term a b s ≡ false → term_at (a ∷ b ∷ l) s ≡ suc (term_at l s)
unfolding term_at
passed a b l s e = ap (λ (c : Bool). cond c 0 (suc (term_at l s))) e

-- the number is at most that of the terms
pub at_most : (l : List ℕ) (s : ℤ) → term_at l s ≤ length l / 2
unfolding term_at
at_most [] s = omega arith
at_most (a ∷ []) s = omega arith
at_most (a ∷ b ∷ l) s = by_cases (in_term a b s) (λ e. omega (arith, chosen a b l s e)) (λ e. omega (arith, passed a b l s e, at_most l s))

-- below that number it is a term with these seconds
pub has_term : (l : List ℕ) (s : ℤ) → term_at l s < length l / 2 → has_seconds l (term_at l s) s ≡ true
unfolding term_at
has_term [] s h = absurd (omega (arith, h))
has_term (a ∷ []) s h = absurd (omega (arith, h))
has_term (a ∷ b ∷ l) s h = by_cases (in_term a b s)
    (λ e. subst (λ (k : ℕ). has_seconds (a ∷ b ∷ l) k s ≡ true) (sym (chosen a b l s e)) e)
    (λ e. let m = further a b l (term_at l s) in
    let g : term_at l s < length l / 2 = omega (arith, h, passed a b l s e) in
    subst (λ (k : ℕ). has_seconds (a ∷ b ∷ l) k s ≡ true) (sym (passed a b l s e)) ((λ i. in_term (m.0 i) (m.1 i) s) ∙ has_term l s g))
