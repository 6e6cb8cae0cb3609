-- What the library says of where two series part (document 02, cards 8 and 11), set down in lent buffers. Assumes nothing.
use Rattle.std.specs.Prelude.{ℕ, ◌≡◌, Bool, true, false, ◌&&◌, List, [], ◌∷◌, length, take, replicate, leb, Some, None, Ok, Err}
use Rattle.hash.specs.Bytes.{width_of, set_down}
use Rattle.hash.specs.declared.Kind.{Kind}
use Rattle.object.specs.Ids.{id_room, id_in}
use Rattle.walk.specs.Refusals.{number_of}
use Rattle.walk.specs.Opening.{Lengths}
use Rattle.reach.specs.Memory.{Lent}
use Rattle.mergebase.specs.Parting.{MergeBase}
use Rattle.mergebase.specs.Call.{MergeBaseSays}

-- the result where the tips, the id or the numbers are too short: none of document 01's numbers, and no answer's (`no_room-base` in
-- proofs/NoRoom.antt)
abbrev pub no_room_number : ℕ
no_room_number = 101

-- two whole tips of this width, and room for an id and a number
unfoldable pub room_to_part : ℕ → List ℕ → List ℕ → List ℕ → List ℕ → Bool
room_to_part w one other id numbers = leb w (length one) && leb w (length other) && leb w (length id) && leb 1 (length numbers)

-- a commit and none are 0, a refusal has its number
abbrev pub parted_number : MergeBase → ℕ
parted_number (Ok c) = 0
parted_number (Err r) = number_of r

-- whether there is a commit
abbrev pub found : MergeBase → ℕ
found (Ok None) = 0
found (Ok (Some c)) = 1
found (Err r) = 0

-- the commit's id, as it stands in an id's bytes; zeros where there is none
abbrev pub id_said : MergeBase → List ℕ
id_said (Ok None) = replicate id_room 0
id_said (Ok (Some c)) = c.bytes
id_said (Err r) = replicate id_room 0

-- an answer set down: its number, the commit's id (zeros where there is none), and whether there is one
pub record PutsBase (w : ℕ) (r : MergeBase) (id id' numbers numbers' : List ℕ) (n : ℕ) : Type 0 where
  pub result : n ≡ parted_number r
  pub id-is : id' ≡ set_down id 0 (id_in w (id_said r))
  pub numbers_are : numbers' ≡ set_down numbers 0 (found r ∷ [])

-- a call that was made: what it says, set down
pub record Parting (kind : Kind) (store one other : List ℕ) (l : Lengths) (m m' : Lent) (levels levels' id id' numbers numbers' : List ℕ) (n : ℕ) : Type 0 where
  pub out : MergeBase
  pub says : MergeBaseSays kind store (take (width_of kind) one) (take (width_of kind) other) l m m' levels levels' out
  pub puts : PutsBase (width_of kind) out id id' numbers numbers' n

-- linenhatch_merge_base, with its result n. Without room that is said before all else, and nothing is altered
pub record LibraryMergeBase (kind : Kind) (store one other : List ℕ) (l : Lengths) (m m' : Lent) (levels levels' id id' numbers numbers' : List ℕ) (n : ℕ) : Type 0 where
  pub no_room : room_to_part (width_of kind) one other id numbers ≡ false → (n ≡ no_room_number) × (m' ≡ m) × (levels' ≡ levels) × (id' ≡ id) × (numbers' ≡ numbers)
  pub made : room_to_part (width_of kind) one other id numbers ≡ true → Parting kind store one other l m m' levels levels' id id' numbers numbers' n
