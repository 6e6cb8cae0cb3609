-- Counting by terms (document 02, card 9): the term of a commit, and a buffer of counts, one number a term. Assumes nothing.
use Rattle.std.specs.Prelude.{ℕ, zero, suc, ◌+◌, ◌/◌, ◌≤◌, true, cond, List, [], ◌∷◌, length, get_or, replicate, ltb, ℤ, Err, None, Ok, Option, Result, Some}
use Rattle.hash.specs.Bytes.{Id, if_some}
use Rattle.calendar.specs.Terms.{good_terms, term_at}
use Rattle.walk.specs.Lookup.{world_of, store_seconds}
use Rattle.date.specs.declared.Seconds.{Seconds}
use Rattle.reading.specs.declared.tip.TipError.{TipError}

-- ---- the term of a commit

-- the term that has these seconds; "Runs before 1970 or after 2099 … are outside"
unfoldable pub spot_at : List ℕ → ℤ → Option ℕ
spot_at terms t = cond (ltb (term_at terms t) (length terms / 2)) (Some (term_at terms t)) None

-- "by seconds from the book"; "runs without readable seconds in the book, are outside"
unfoldable pub term_of : ℕ → List ℕ → List ℕ → Id → Option ℕ
term_of w terms s x = if_some (store_seconds (world_of w s []) x) None (λ t. spot_at terms t)

-- a list that is not good counts as none
unfoldable pub good_part : List ℕ → List ℕ
good_part terms = cond (good_terms terms) terms []

-- ---- the counts

-- one more in place k, where there is such a place
unfoldable pub bumped : List ℕ → ℕ → List ℕ
bumped [] k = []
bumped (n ∷ c) zero = (n + 1) ∷ c
bumped (n ∷ c) (suc k) = n ∷ bumped c k

abbrev pub counts_at : List ℕ → Option ℕ → List ℕ
counts_at c (Some k) = bumped c k
counts_at c None = c

-- commits outside all terms, after one more
abbrev pub outside_at : ℕ → Option ℕ → ℕ
outside_at n (Some k) = n
outside_at n None = n + 1

abbrev pub zeros : ℕ → List ℕ
zeros n = replicate n 0

-- the counts of n calls or fewer
abbrev pub FewCounts : ℕ → List ℕ → Type 0
FewCounts n c = (k : ℕ) → get_or c k 0 ≤ n

-- ---- of a tip that was read
abbrev pub spot_of : List ℕ → Result Seconds TipError → Option ℕ
spot_of terms (Ok s) = spot_at terms s.0
spot_of terms (Err e) = None
