-- What the library says of a report by terms (document 02, card 9), set down in lent buffers. Assumes nothing.
use Rattle.std.specs.Prelude.{ℕ, ◌/◌, ◌≡◌, Bool, true, false, ◌&&◌, List, [], ◌∷◌, length, leb}
use Rattle.hash.specs.Bytes.{set_down}
use Rattle.walk.specs.Opening.{Input}
use Rattle.traverse.specs.Contract.{Lent}
use Rattle.termsreport.specs.declared.TermsReport.{TermsReport}
use Rattle.termsreport.specs.Terms.{TermsSays}
use Rattle.reportwire.specs.Feed.{no_room_number, reported_number}

-- room for a count of each two months, and for the commits outside
unfoldable pub room_for_terms : List ℕ → List ℕ → List ℕ → Bool
room_for_terms months counts numbers = leb (length months / 2) (length counts) && leb 1 (length numbers)

-- a report set down beside its counts: its number, and the commits outside all terms
pub record PutsOutside (r : TermsReport) (numbers numbers' : List ℕ) (n : ℕ) : Type 0 where
  pub result : n ≡ reported_number r.outcome
  pub numbers_are : numbers' ≡ set_down numbers 0 (r.outside ∷ [])

-- a report that was made: what it says, with a number in every place of counts, set down
pub record Counting (i : Input) (months : List ℕ) (m m' : Lent) (counts counts' numbers numbers' : List ℕ) (n : ℕ) : Type 0 where
  pub report : TermsReport
  pub says : TermsSays i months m counts report m' counts'
  pub puts : PutsOutside report numbers numbers' n

-- linenhatch_terms, with its result n. Without room that is said before all else, and nothing is altered
pub record LibraryTerms (i : Input) (months : List ℕ) (m m' : Lent) (counts counts' numbers numbers' : List ℕ) (n : ℕ) : Type 0 where
  pub no_room : room_for_terms months counts numbers ≡ false → (n ≡ no_room_number) × (m' ≡ m) × (counts' ≡ counts) × (numbers' ≡ numbers)
  pub made : room_for_terms months counts numbers ≡ true → Counting i months m m' counts counts' numbers numbers' n
