-- The two readings in a commit's message (document 02, card 5, "Feed report"). Assumes nothing.
use Rattle.std.specs.Prelude.{ℕ, ◌+◌, ◌*◌, ◌-◌, Bool, true, false, cond, ◌&&◌, ◌||◌, List, [], ◌∷◌, length, eqb, leb, Err, None, Ok, Option, Result, Some}
use Rattle.feed.specs.declared.Feed.{Feed}
use Rattle.walk.specs.declared.Refusal.{Refusal}
use Rattle.hash.specs.Bytes.{if_some, pick}
use Rattle.object.specs.Header.{strip}
use Rattle.actor.specs.Person.{digit}
use Rattle.walk.specs.declared.Refusal.TheVariants.{ReadingTwice, ReadingUnreadable}
use Rattle.feed.specs.declared.Told.{Told}
use Rattle.feed.specs.declared.Told.TheVariants.{Nothing, Millimetres, Unreadable, Twice}

-- `Cone-feed: ` and `Bed-feed: `
abbrev pub cone_start : List ℕ
cone_start = 67 ∷ 111 ∷ 110 ∷ 101 ∷ 45 ∷ 102 ∷ 101 ∷ 101 ∷ 100 ∷ 58 ∷ 32 ∷ []

abbrev pub bed_start : List ℕ
bed_start = 66 ∷ 101 ∷ 100 ∷ 45 ∷ 102 ∷ 101 ∷ 101 ∷ 100 ∷ 58 ∷ 32 ∷ []

-- "1 to 10 decimal digits, millimetres, at most 1,000,000,000": all bytes up to the line's end; v is the value of those before
unfoldable pub decimal : ℕ → List ℕ → Option ℕ
decimal v [] = Some v
decimal v (x ∷ xs) = let r = decimal (v * 10 + (x - 48)) xs in cond (digit x) r None

abbrev pub most_millimetres : ℕ
most_millimetres = 1000000000

abbrev pub at_most : ℕ → Option ℕ
at_most v = cond (leb v most_millimetres) (Some v) None

unfoldable pub millimetres : List ℕ → Option ℕ
millimetres t =
    let read : Option ℕ = if_some (decimal 0 t) None (λ v. at_most v) in
    cond (leb 1 (length t) && leb (length t) 10) read None

-- "the message is what follows the first empty line": the first newline that is the first byte of its line, which the flag says this byte is
unfoldable pub message_from : Bool → List ℕ → List ℕ
message_from fresh [] = []
message_from fresh (x ∷ xs) = let r = message_from (eqb x 10) xs in cond (eqb x 10 && fresh) xs r

unfoldable pub message_of : List ℕ → List ℕ
message_of b = message_from true b

-- "A line ends at its newline or at the body's end": the lines without their newlines. (After the last newline an empty one stands, which starts
-- in no way.)
abbrev pub longer : ℕ → List (List ℕ) → List (List ℕ)
longer x [] = (x ∷ []) ∷ []
longer x (l ∷ ls) = (x ∷ l) ∷ ls

unfoldable pub lines_of : List ℕ → List (List ℕ)
lines_of [] = [] ∷ []
lines_of (x ∷ xs) = let r = lines_of xs in cond (eqb x 10) ([] ∷ r) (longer x r)

-- "message lines starting so count wherever they stand": what follows the start, for each of them
unfoldable pub starting_so : List ℕ → List (List ℕ) → List (List ℕ)
starting_so start [] = []
starting_so start (l ∷ ls) = let r = starting_so start ls in if_some (strip start l) r (λ t. t ∷ r)

-- "one that starts so and goes on otherwise is unreadable"
abbrev pub told_by : Option ℕ → Told
told_by None = Unreadable
told_by (Some v) = Millimetres v

-- "two lines with the same start, readable or not"
abbrev pub told : List (List ℕ) → Told
told [] = Nothing
told (t ∷ []) = told_by (millimetres t)
told (t ∷ u ∷ us) = Twice

-- "Refused: 21 reading given twice …, 22 reading unreadable, … 21 first"
abbrev pub twice : Told → Bool
twice Nothing = false
twice (Millimetres n) = false
twice Unreadable = false
twice Twice = true

abbrev pub unreadable : Told → Bool
unreadable Nothing = false
unreadable (Millimetres n) = false
unreadable Unreadable = true
unreadable Twice = false

abbrev pub reading_in : Told → Option ℕ
reading_in Nothing = None
reading_in (Millimetres n) = Some n
reading_in Unreadable = None
reading_in Twice = None

unfoldable pub judged : Told → Told → Result Feed Refusal
judged c b =
    pick (twice c || twice b) (Err ReadingTwice)
    (pick (unreadable c || unreadable b) (Err ReadingUnreadable) (Ok (record { cone = reading_in c; bed = reading_in b })))

-- the readings of a commit's message, over its lines; and of its body
unfoldable pub feed_in : List (List ℕ) → Result Feed Refusal
feed_in ls = judged (told (starting_so cone_start ls)) (told (starting_so bed_start ls))

unfoldable pub feed_of : List ℕ → Result Feed Refusal
feed_of b = feed_in (lines_of (message_of b))

-- opens every definition of this file, for theorems that compute
unfoldable pub feed_all : Unit {0}
unfolding decimal millimetres message_from message_of lines_of starting_so judged feed_in feed_of
feed_all = tt
