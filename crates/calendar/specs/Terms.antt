-- School terms (document 02, card 9). A list of terms is its months, two a term: the first and the last. Assumes nothing.
use Rattle.std.specs.Prelude.{ℕ, zero, suc, ◌+◌, ◌*◌, Bool, true, false, cond, ◌&&◌, List, [], ◌∷◌, length, get_or, leb, ltb, ℤ, pos}
use Rattle.std.specs.Int.Signed.{le_z}
use Rattle.calendar.specs.Months.{first_second, last_second, months}

-- a term runs from the first second of one month to the last second of the same or a later month
unfoldable pub in_term : ℕ → ℕ → ℤ → Bool
in_term first last s = le_z (pos (first_second first)) s && le_z s (pos (last_second last))

-- a term may stand after terms that end before the month `free`: it does not start before that month, nor end before it starts, and its
-- months are in the table
unfoldable pub fits : ℕ → ℕ → ℕ → Bool
fits free first last = leb free first && leb first last && ltb last months

-- the months are those of terms that rise without overlap, from the month `free` on; two terms may touch
unfoldable pub rise : ℕ → List ℕ → Bool
rise free [] = true
rise free (first ∷ []) = false
rise free (first ∷ last ∷ l) = cond (fits free first last) (rise (suc last) l) false

-- a good list: at most 24 terms, rising and without overlap. No terms is a good list
unfoldable pub good_terms : List ℕ → Bool
good_terms l = leb (length l) 48 && rise 0 l

-- the number of the term that has these seconds, or the number of terms
unfoldable pub term_at : List ℕ → ℤ → ℕ
term_at [] s = 0
term_at (first ∷ []) s = 0
term_at (first ∷ last ∷ l) s = cond (in_term first last s) 0 (suc (term_at l s))

-- the months of term k
abbrev pub first_month : List ℕ → ℕ → ℕ
first_month l k = get_or l (k * 2) 0

abbrev pub last_month : List ℕ → ℕ → ℕ
last_month l k = get_or l (k * 2 + 1) 0

-- term k has these seconds
abbrev pub has_seconds : List ℕ → ℕ → ℤ → Bool
has_seconds l k s = in_term (first_month l k) (last_month l k) s

unfoldable pub terms_all : Unit {0}
unfolding in_term fits rise good_terms term_at
terms_all = tt
