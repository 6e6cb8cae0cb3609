-- Answers as the code gives them: document 01's numbers and values for every case, and the bytes of the buffer parents.
-- Assumes nothing.
use Rattle.std.specs.Prelude.{ℕ, ◌-◌, List, [], ◌∷◌, ◌++◌, length, replicate, ℤ, pos, Err, None, Ok, Option, Result, Some}
use Rattle.commitgraph.specs.declared.Level.{Level}
use Rattle.date.specs.declared.Seconds.{Seconds}
use Rattle.walk.specs.declared.Refusal.{Refusal}
use Rattle.hash.specs.Bytes.{Id, set_down}
use Rattle.object.specs.Ids.{id_room, padded}
use Rattle.walk.specs.declared.Outcome.{Outcome}
use Rattle.walk.specs.declared.Outcome.TheVariants.{Commit, End, Refused}
use Rattle.walk.specs.declared.Info.{Info}
use Rattle.walk.specs.declared.Answer as declaredAnswer
use Rattle.walk.specs.declared.OpenAnswer.{OpenAnswer}
use Rattle.walk.specs.Refusals.{number_of}
use Rattle.walk.specs.Opening.{Opening, closed, opened}
use Rattle.walk.specs.Next.{Kind, end, refused, handed, Answer}

-- ---- the answer of a next call

abbrev pub Given : Type 0
Given = declaredAnswer.Answer

abbrev pub outcome_of : Kind → Outcome
outcome_of end = End
outcome_of (refused r) = Refused r
outcome_of (handed x g t) = Commit

-- "A refusal or end carries no id, level or seconds (zeros there)"
abbrev pub no_id : Id
no_id = replicate id_room 0

-- an id by value: zeros stand after it
abbrev pub id_of_kind : Kind → Id
id_of_kind end = no_id
id_of_kind (refused r) = no_id
id_of_kind (handed x g t) = padded x

abbrev pub level_given : Option ℕ → Option Level
level_given None = None
level_given (Some l) = Some (record { 0 = l })

abbrev pub seconds_given : Option ℤ → Option Seconds
seconds_given None = None
seconds_given (Some s) = Some (record { 0 = s })

abbrev pub level_of_kind : Kind → Option Level
level_of_kind end = None
level_of_kind (refused r) = None
level_of_kind (handed x g t) = level_given g

abbrev pub seconds_of_kind : Kind → Option Seconds
seconds_of_kind end = None
seconds_of_kind (refused r) = None
seconds_of_kind (handed x g t) = seconds_given t

-- what an answer says of a commit, with card 7's zone; n parents' ids stand in the buffer
abbrev pub info_of : Kind → ℕ → Option ℤ → Info
info_of k n z = record { id = id_of_kind k; parents = n; generation = level_of_kind k; time = seconds_of_kind k; zone = z }

-- an answer of the walk, field by field as a call gives it; the parents' ids stand in the buffer, here is their number
unfoldable pub given : Answer → Given
given a = record {
  outcome = outcome_of a.kind;
  info = info_of a.kind (length a.parents) a.zone;
  admitted = a.admitted;
  struck = a.struck;
  waiting = a.waiting;
}

-- ids end to end
unfoldable pub joined : List Id → List ℕ
joined [] = []
joined (x ∷ xs) = x ++ joined xs

-- the buffer parents after an answer: "ids already read stand at the start of parents"; "parents past the ids given keeps its bytes"
unfoldable pub parents_given : Answer → List ℕ → List ℕ
parents_given a b = set_down b 0 (joined a.parents)

-- ---- the outcome of an opening

-- "refused openings … carry zeros"; an accepted one carries its running numbers
unfoldable pub open_given : Opening → OpenAnswer
open_given (closed r) = record { outcome = Err r; admitted = 0; struck = 0; waiting = 0 }
open_given (opened st) = record { outcome = (Ok tt); admitted = st.admitted; struck = st.struck; waiting = length st.queue }

-- ---- document 01's numbers and values of each case

-- a refusal has document 01's number; a commit is 0 and the end 100, which no refusal is: each outcome has a number of its own
abbrev pub outcome_number : Outcome → ℕ
outcome_number Commit = 0
outcome_number End = 100
outcome_number (Refused r) = number_of r

-- the same of an opening, where an accepted one is 0
abbrev pub open_number : Result (Unit {0}) Refusal → ℕ
open_number (Ok _) = 0
open_number (Err r) = number_of r

-- how many of n calls may follow one that came out so: none after the end
abbrev pub calls_after : ℕ → Outcome → ℕ
calls_after n Commit = n - 1
calls_after n End = 0
calls_after n (Refused r) = n - 1

-- "zeros there": a level and a number of seconds, 0 where there is none
abbrev pub level_value : Option Level → ℕ
level_value (Some l) = l.0
level_value None = 0

abbrev pub seconds_value : Option Seconds → ℤ
seconds_value (Some s) = s.0
seconds_value None = pos 0

-- minutes, 0 where there is no zone
abbrev pub zone_value : Option ℤ → ℤ
zone_value (Some m) = m
zone_value None = pos 0
