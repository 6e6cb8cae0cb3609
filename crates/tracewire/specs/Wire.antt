-- What the library says of a trace by turns (document 02, card 12), set down in lent buffers. Assumes nothing.
use Rattle.std.specs.Prelude.{ℕ, ◌≡◌, Bool, true, false, ◌&&◌, List, [], ◌∷◌, length, take, replicate, leb, Ok, Err}
use Rattle.hash.specs.Bytes.{set_down}
use Rattle.object.specs.Ids.{id_room, id_in}
use Rattle.walk.specs.Refusals.{number_of}
use Rattle.trace.specs.declared.Prospect.TheVariants.{NotForced, AtStart, Forced}
use Rattle.trace.specs.Call.{Traced, TraceSays}

-- the result where the start, the id or the numbers are too short: none of document 01's numbers, and no answer's (`no_room_trace` in
-- proofs/NoRoom.antt)
abbrev pub no_room_number : ℕ
no_room_number = 101

-- a whole start of this width, and room for an id and two numbers
unfoldable pub room_to_trace : ℕ → List ℕ → List ℕ → List ℕ → Bool
room_to_trace w start id numbers = leb w (length start) && leb w (length id) && leb 2 (length numbers)

-- an answer is 0, a refusal has its number
abbrev pub prospect_number : Traced → ℕ
prospect_number (Ok o) = 0
prospect_number (Err r) = number_of r

-- 0: not forced; 1: the start is on the list; 2: forced, by a parent
abbrev pub prospect_kind : Traced → ℕ
prospect_kind (Ok NotForced) = 0
prospect_kind (Ok AtStart) = 1
prospect_kind (Ok (Forced i p)) = 2
prospect_kind (Err r) = 0

-- the parent's number
abbrev pub parent_number : Traced → ℕ
parent_number (Ok NotForced) = 0
parent_number (Ok AtStart) = 0
parent_number (Ok (Forced i p)) = i
parent_number (Err r) = 0

-- the parent's id, as it stands in an id's bytes; zeros where there is none
abbrev pub id_said : Traced → List ℕ
id_said (Ok NotForced) = replicate id_room 0
id_said (Ok AtStart) = replicate id_room 0
id_said (Ok (Forced i p)) = p.bytes
id_said (Err r) = replicate id_room 0

-- an answer set down: its number, the parent's id (zeros where there is none), what kind it is and the parent's number
pub record PutsTraced (w : ℕ) (r : Traced) (id id' numbers numbers' : List ℕ) (n : ℕ) : Type 0 where
  pub result : n ≡ prospect_number r
  pub id-is : id' ≡ set_down id 0 (id_in w (id_said r))
  pub numbers_are : numbers' ≡ set_down numbers 0 (prospect_kind r ∷ parent_number r ∷ [])

-- a call that was made: what it says, set down
pub record Tracing (w : ℕ) (store start list : List ℕ) (d : ℕ) (m m' id id' numbers numbers' : List ℕ) (n : ℕ) : Type 0 where
  pub out : Traced
  pub says : TraceSays w store list d (take w start) m m' out
  pub puts : PutsTraced w out id id' numbers numbers' n

-- linenhatch_trace over ids of the width w, with its result n. Without room that is said before all else, and nothing is altered
pub record LibraryTrace (w : ℕ) (store start list : List ℕ) (d : ℕ) (m m' id id' numbers numbers' : List ℕ) (n : ℕ) : Type 0 where
  pub no_room : room_to_trace w start id numbers ≡ false → (n ≡ no_room_number) × (m' ≡ m) × (id' ≡ id) × (numbers' ≡ numbers)
  pub made : room_to_trace w start id numbers ≡ true → Tracing w store start list d m m' id id' numbers numbers' n
