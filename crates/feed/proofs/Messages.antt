-- Laws of where a message begins: after the byte at a place the search goes on with what follows it, unless an empty line ended there.
-- Assumes nothing.
use mathlib.Core.Path.{◌≡◌, refl, sym, ap, ◌∙◌}
use mathlib.Core.Bool.{Bool, true, false, ◌&&◌}
use mathlib.Core.List.{List, ◌∷◌}
use Prim.Native.Nat.{ℕ, suc, ◌+◌, ◌≤◌, ◌<◌}
use native.Mathlib.Numerals.{add-one}
use lib.ListN.{length, get_or, drop, drop_of_length-le}
use lib.Seq.{drop-cons}
use lib.Dec.{eqb}
use Rattle.feed.specs.Feed.{message_from, message_of}

-- a byte that ends an empty line, and any other
front-empty : (x : ℕ) (xs : List ℕ) → eqb x 10 ≡ true → message_from true (x ∷ xs) ≡ xs
unfolding message_from
front-empty x xs e = rw e

front-other : (fresh : Bool) (x : ℕ) (xs : List ℕ) → (eqb x 10 && fresh) ≡ false → message_from fresh (x ∷ xs) ≡ message_from (eqb x 10) xs
unfolding message_from
front-other fresh x xs e = rw e

-- the same at place i of b
module _ (b : List ℕ) (i : ℕ) (h : i < length b) where
  pub at-empty : (fresh : Bool) → fresh ≡ true → eqb (get_or b i 0) 10 ≡ true → drop (i + 1) b ≡ message_from fresh (drop i b)
  at-empty fresh f e = rw (f, add-one) (sym (ap (message_from true) (drop-cons b i 0 h) ∙ front-empty (get_or b i 0) (drop (suc i) b) e))

  pub at_other : (fresh : Bool) → (eqb (get_or b i 0) 10 && fresh) ≡ false → message_from fresh (drop i b) ≡ message_from (eqb (get_or b i 0) 10) (drop (i + 1) b)
  at_other fresh e = rw add-one (ap (message_from fresh) (drop-cons b i 0 h) ∙ front-other fresh (get_or b i 0) (drop (suc i) b) e)

-- past the end
pub at-end : (b : List ℕ) (i : ℕ) (fresh : Bool) → length b ≤ i → drop i b ≡ message_from fresh (drop i b)
unfolding message_from
at-end b i fresh h = rw (drop_of_length-le b h)

-- at the start of the body a line starts
pub start : (b : List ℕ) → message_of b ≡ message_from true b
unfolding message_of
start b = refl

-- no empty line ends here: no newline, or none at a line's start
pub no_end : (e fresh : Bool) → e ≡ false → (e && fresh) ≡ false
no_end e fresh h = rw h

pub not-fresh : (e fresh : Bool) → fresh ≡ false → (e && fresh) ≡ false
not-fresh true fresh h = h
not-fresh false fresh h = refl
