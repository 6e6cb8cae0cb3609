-- What the library says of a feed report (document 02, cards 5 and 10), set down in lent buffers. Assumes nothing.
use Rattle.std.specs.Prelude.{ℕ, ◌≡◌, Bool, true, false, cond, ◌&&◌, List, [], ◌∷◌, length, set, eqb, leb, ℤ, Err, Ok, Result}
use Rattle.walk.specs.declared.Refusal.{Refusal}
use Rattle.hash.specs.Bytes.{set_down}
use Rattle.walk.specs.Refusals.{number_of}
use Rattle.walk.specs.Opening.{Input}
use Rattle.traverse.specs.Contract.{Lent}
use Rattle.reports.specs.declared.Reader.{Reader}
use Rattle.reports.specs.declared.Reader.TheVariants.{Shop, Outside}
use Rattle.reports.specs.declared.FeedReport.{FeedReport}
use Rattle.reports.specs.Report.{FeedSays}

-- the result where there is no room for a report: none of document 01's numbers, and no report's (`no_room-report` in proofs/NoRoom.antt)
abbrev pub no_room_number : ℕ
no_room_number = 101

-- a whole report is 0, a refusal has its number
abbrev pub reported_number : Result (Unit {0}) Refusal → ℕ
reported_number (Ok _) = 0
reported_number (Err r) = number_of r

-- "the number of runs with both, cone alone, bed alone and neither, the two exact sums over all readings"
abbrev pub feed_words : FeedReport → List ℕ
feed_words r = r.both ∷ r.cone ∷ r.bed ∷ r.neither ∷ r.cone_sum ∷ r.bed_sum ∷ []

-- room for six numbers and a signed one
unfoldable pub room_for_feed : List ℕ → List ℤ → Bool
room_for_feed numbers difference = leb 6 (length numbers) && leb 1 (length difference)

-- a report set down: its number, its numbers, and "the signed sum of cone less bed"
pub record PutsFeed (r : FeedReport) (numbers numbers' : List ℕ) (difference difference' : List ℤ) (n : ℕ) : Type 0 where
  pub result : n ≡ reported_number r.outcome
  pub numbers_are : numbers' ≡ set_down numbers 0 (feed_words r)
  pub difference_is : difference' ≡ set difference 0 r.difference

-- who the report is for, as a number: 0 is the shop's reader, any other an outside one
abbrev pub reader_of : ℕ → Reader
reader_of n = cond (eqb n 0) Shop Outside

-- a report that was made: what it says, set down
pub record Feeding (reader : Reader) (e : List ℕ) (i : Input) (m m' : Lent) (numbers numbers' : List ℕ) (difference difference' : List ℤ) (n : ℕ) : Type 0 where
  pub report : FeedReport
  pub says : FeedSays reader e i m report m'
  pub puts : PutsFeed report numbers numbers' difference difference' n

-- linenhatch_feed, with the embargoed list e and its result n. Without room that is said before all else, and nothing is altered
pub record LibraryFeed (reader : Reader) (e : List ℕ) (i : Input) (m m' : Lent) (numbers numbers' : List ℕ) (difference difference' : List ℤ) (n : ℕ) : Type 0 where
  pub no_room : room_for_feed numbers difference ≡ false → (n ≡ no_room_number) × (m' ≡ m) × (numbers' ≡ numbers) × (difference' ≡ difference)
  pub made : room_for_feed numbers difference ≡ true → Feeding reader e i m m' numbers numbers' difference difference' n
