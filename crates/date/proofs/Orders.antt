-- What the derived comparisons of seconds say, in the terms of `lt_z`. Assumes nothing.
use Rattle.std.proofs.Common.{◌≡◌, refl, sym, ◌∙◌, ℤ, Bool, true, false, not, ◌&&◌, pos, arith, is_lt, is_le, int_cmp}
use lib.IntN.{negsuc}
use lib.Signed.{lt_z}
use mathlib.Core.Bool.{true≢false}
use borrow.Author.Tests.{ltb-true, le-ltb}

by_cases : {X : Type 0} (b : Bool) → (b ≡ true → X) → (b ≡ false → X) → X
by_cases true f g = f refl
by_cases false f g = g refl

asym : (a b : ℤ) → lt_z a b ≡ true → lt_z b a ≡ false
asym (pos m) (pos n) e = le-ltb n m (omega (arith, ltb-true m n e))
asym (pos m) (negsuc n) e = absurd (true≢false (sym e))
asym (negsuc m) (pos n) e = refl
asym (negsuc m) (negsuc n) e = le-ltb m n (omega (arith, ltb-true n m e))

pub less : (a b : ℤ) → is_lt (int_cmp a b) ≡ lt_z a b
less a b = by_cases (lt_z a b) (λ h. rw h) (λ h. by_cases (lt_z b a) (λ e. rw (h, e)) (λ e. rw (h, e)))

pub not_less : (a b : ℤ) → is_le (int_cmp a b) ≡ not (lt_z b a)
not_less a b = by_cases (lt_z a b) (λ h. rw (h, asym a b h)) (λ h. by_cases (lt_z b a) (λ e. rw (h, e)) (λ e. rw (h, e)))
