-- What a caller reads off the result of a writing, by the number alone (document 02, card 4). Assumes nothing.
use Rattle.std.specs.Prelude.{ℕ, ◌≡◌, List, [], ◌∷◌}
use Rattle.hash.specs.Bytes.{width_of, set_down}
use Rattle.hash.specs.declared.Kind.{Kind}
use Rattle.walk.specs.declared.Refusal.{Refusal}
use Rattle.walk.specs.Refusals.{number_of}
use Rattle.graphwrite.specs.Writing.{file_of, length_of}
use Rattle.graphwire.specs.Wire.{no_room_number}

pub record WritingSeen (kind : Kind) (store out out' numbers numbers' : List ℕ) (n : ℕ) : Type 0 where
  -- "an accepted writing alters only the file's own bytes there and returns their number"
  pub file : n ≡ 0 → (out' ≡ set_down out 0 (file_of kind store)) × (numbers' ≡ set_down numbers 0 (length_of (width_of kind) store ∷ []))
  -- "A refusal leaves the output buffer alone"
  pub refused : (r : Refusal) → n ≡ number_of r → (out' ≡ out) × (numbers' ≡ set_down numbers 0 (0 ∷ []))
  -- without room nothing is altered
  pub no_room : n ≡ no_room_number → (out' ≡ out) × (numbers' ≡ numbers)
