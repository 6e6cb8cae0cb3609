-- Laws of the number of a reading: one digit at a place moves the value on by one digit; of 10 digits it stays below 10 ^ 10. Assumes nothing.
use Rattle.std.specs.Prelude.{None, Option, Some}
use mathlib.Core.Path.{◌≡◌, refl, sym, ap, ◌∙◌}
use mathlib.Core.Bool.{true, false}
use mathlib.Core.List.{List, [], ◌∷◌}
use Prim.Native.Nat.{ℕ, suc, ◌+◌, ◌-◌, ◌*◌, ◌≤◌, ◌<◌}
use native.Mathlib.Numerals.{add-one}
use native.Mathlib.Omega.{arith}
use lib.ListN.{length, get_or, drop, drop_of_length-le}
use lib.Seq.{drop-cons}
use borrow.Author.Tests.{le-leb, lt-leb}
use Rattle.hash.specs.Bytes.{if_some}
use Rattle.actor.specs.Person.{digit}
use Rattle.feed.specs.declared.Told.TheVariants.{Millimetres, Unreadable}
use Rattle.feed.specs.Feed.{decimal, at_most, millimetres, told_by}
use Rattle.feed.specs.Passing.{number_read}

front-none : (v x : ℕ) (xs : List ℕ) → digit x ≡ false → decimal v (x ∷ xs) ≡ None
unfolding decimal
front-none v x xs e = rw e

front-digit : (v x : ℕ) (xs : List ℕ) → digit x ≡ true → decimal v (x ∷ xs) ≡ decimal (v * 10 + (x - 48)) xs
unfolding decimal
front-digit v x xs e = rw e

-- at place i of b
module _ (v i : ℕ) (b : List ℕ) (h : i < length b) where
  pub at_none : digit (get_or b i 0) ≡ false → decimal v (drop i b) ≡ None
  at_none e = ap (decimal v) (drop-cons b i 0 h) ∙ front-none v (get_or b i 0) (drop (suc i) b) e

  pub at-digit : digit (get_or b i 0) ≡ true → decimal v (drop i b) ≡ decimal (v * 10 + (get_or b i 0 - 48)) (drop (i + 1) b)
  at-digit e = rw add-one (ap (decimal v) (drop-cons b i 0 h) ∙ front-digit v (get_or b i 0) (drop (suc i) b) e)

pub at-end : (v i : ℕ) (b : List ℕ) → length b ≤ i → decimal v (drop i b) ≡ Some v
unfolding decimal
at-end v i b h = rw (drop_of_length-le b h)

-- the answer tells the number
pub number-good : (o : Option ℕ) (v : ℕ) → number_read o ≡ Some v → o ≡ Some v
number-good None v e = let z : ◌≡◌ {A = ℕ} 0 1 = cc in absurd (omega arith)
number-good (Some u) v e = cc

pub number-bad : (o : Option ℕ) → number_read o ≡ None → o ≡ None
number-bad None e = refl
number-bad (Some u) e = let z : ◌≡◌ {A = ℕ} 0 1 = cc in absurd (omega arith)

-- the bound
pub above_most : (v : ℕ) → 1000000000 < v → Unreadable ≡ told_by (at_most v)
above_most v h = rw (lt-leb v 1000000000 h)

pub within-most : (v : ℕ) → v ≤ 1000000000 → Millimetres v ≡ told_by (at_most v)
within-most v h = rw (le-leb v 1000000000 h)

-- by the number of bytes: none, too many, or judged by their value
pub no-digits : (t : List ℕ) → length t ≡ 0 → Unreadable ≡ told_by (millimetres t)
unfolding millimetres
no-digits t h = rw (lt-leb 1 (length t) (omega arith))

pub many-digits : (t : List ℕ) → 10 < length t → Unreadable ≡ told_by (millimetres t)
unfolding millimetres
many-digits t h = rw (le-leb 1 (length t) (omega arith), lt-leb (length t) 10 h)

pub some-digits : (t : List ℕ) → (length t ≡ 0 → ⊥) → 1 ≤ length t
some-digits [] h = absurd (h refl)
some-digits (x ∷ xs) h = omega arith

pub few-digits : (t : List ℕ) → 1 ≤ length t → length t ≤ 10 → millimetres t ≡ if_some (decimal 0 t) None (λ v. at_most v)
unfolding millimetres
few-digits t h k = rw (le-leb 1 (length t) h, le-leb (length t) 10 k)

pub few-bad : (t : List ℕ) → 1 ≤ length t → length t ≤ 10 → decimal 0 t ≡ None → Unreadable ≡ told_by (millimetres t)
few-bad t h k e = sym (ap told_by (few-digits t h k ∙ ap (λ (o : Option ℕ). if_some o None (λ v. at_most v)) e))

pub few-good : (t : List ℕ) (v : ℕ) → 1 ≤ length t → length t ≤ 10 → decimal 0 t ≡ Some v → told_by (at_most v) ≡ told_by (millimetres t)
few-good t v h k e = sym (ap told_by (few-digits t h k ∙ ap (λ (o : Option ℕ). if_some o None (λ u. at_most u)) e))
