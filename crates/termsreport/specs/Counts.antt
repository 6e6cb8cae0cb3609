-- The counts of a report by terms (document 02, card 9), over any list of commits. Assumes nothing.
use Rattle.std.specs.Prelude.{ℕ, ◌+◌, cond, List, [], ◌∷◌, eqb, None, Option, Some}
use Rattle.hash.specs.Bytes.{Id}
use Rattle.walk.specs.Calls.{up_to}
use Rattle.tally.specs.Terms.{term_of}

-- ---- one commit

-- 1 for a commit of term k
abbrev pub one_in : ℕ → Option ℕ → ℕ
one_in k (Some j) = cond (eqb j k) 1 0
one_in k None = 0

-- 1 for a commit outside all
abbrev pub one_outside : Option ℕ → ℕ
one_outside (Some j) = 0
one_outside None = 1

-- ---- some commits

-- "counts the walk's runs in each … by seconds from the book": how many of these commits lie in term k
unfoldable pub count_in : ℕ → List ℕ → List ℕ → List Id → ℕ → ℕ
count_in width terms s [] k = 0
count_in width terms s (x ∷ xs) k = one_in k (term_of width terms s x) + count_in width terms s xs k

-- "and outside all": "[r]uns before 1970 or after 2099, and runs without readable seconds in the book, are outside"
unfoldable pub count_outside : ℕ → List ℕ → List ℕ → List Id → ℕ
count_outside width terms s [] = 0
count_outside width terms s (x ∷ xs) = one_outside (term_of width terms s x) + count_outside width terms s xs

-- n counts, one a term; past the terms they are 0
abbrev pub counts_in : ℕ → List ℕ → List ℕ → List Id → ℕ → List ℕ
counts_in width terms s l n = up_to (count_in width terms s l) n

unfoldable pub sum : List ℕ → ℕ
sum [] = 0
sum (n ∷ c) = n + sum c
