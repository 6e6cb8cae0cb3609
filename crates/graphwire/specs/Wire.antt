-- What the library says of writing graph files (document 02, card 4), set down in lent buffers. Assumes nothing.
use Rattle.std.specs.Prelude.{ℕ, ◌≡◌, List, [], ◌∷◌, length, Err, Ok, Result}
use Rattle.walk.specs.declared.Refusal.{Refusal}
use Rattle.hash.specs.Bytes.{width_of, set_down}
use Rattle.hash.specs.declared.Kind.{Kind}
use Rattle.walk.specs.Refusals.{number_of}
use Rattle.graphwrite.specs.Writing.{Measures, Writes}

-- the result where there is no room for the length: none of document 01's numbers, and no answer's (`no_room-written` in proofs/NoRoom.antt)
abbrev pub no_room_number : ℕ
no_room_number = 101

-- a file is 0, a refusal has its number
abbrev pub written_number : Result ℕ Refusal → ℕ
written_number (Ok n) = 0
written_number (Err r) = number_of r

-- "returns their number"; 0 where there is no file
abbrev pub bytes_of : Result ℕ Refusal → ℕ
bytes_of (Ok n) = n
bytes_of (Err r) = 0

-- an answer set down: its number, and the length of the file
pub record PutsLength (r : Result ℕ Refusal) (numbers numbers' : List ℕ) (n : ℕ) : Type 0 where
  pub result : n ≡ written_number r
  pub numbers_are : numbers' ≡ set_down numbers 0 (bytes_of r ∷ [])

-- a call that was made: what it says, set down
pub record Measuring (kind : Kind) (store levels levels' numbers numbers' : List ℕ) (n : ℕ) : Type 0 where
  pub written : Result ℕ Refusal
  pub says : Measures (width_of kind) store levels levels' written
  pub puts : PutsLength written numbers numbers' n

pub record Writing (kind : Kind) (store levels levels' out out' numbers numbers' : List ℕ) (n : ℕ) : Type 0 where
  pub written : Result ℕ Refusal
  pub says : Writes kind store levels levels' out out' written
  pub puts : PutsLength written numbers numbers' n

-- linenhatch_graph_length, with its result n. Without room for the length that is said before all else, and nothing is altered
pub record LibraryMeasures (kind : Kind) (store levels levels' numbers numbers' : List ℕ) (n : ℕ) : Type 0 where
  pub no_room : length numbers ≡ 0 → (n ≡ no_room_number) × (levels' ≡ levels) × (numbers' ≡ numbers)
  pub made : (length numbers ≡ 0 → ⊥) → Measuring kind store levels levels' numbers numbers' n

-- linenhatch_write_graph, with its result n
pub record LibraryWrites (kind : Kind) (store levels levels' out out' numbers numbers' : List ℕ) (n : ℕ) : Type 0 where
  pub no_room : length numbers ≡ 0 → (n ≡ no_room_number) × (levels' ≡ levels) × (out' ≡ out) × (numbers' ≡ numbers)
  pub made : (length numbers ≡ 0 → ⊥) → Writing kind store levels levels' out out' numbers numbers' n
