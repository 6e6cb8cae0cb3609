-- The result for no room is no answer's number: a refusal's lies below 100, and all else is 0. Assumes nothing.
use Rattle.std.specs.Prelude.{Err, Ok, Result, ℕ}
use Rattle.walk.specs.declared.Refusal.{Refusal}
use mathlib.Core.Path.{◌≡◌}
use native.Mathlib.Omega.{arith}
use Rattle.walk.proofs.Outcomes.{refusal_number_between}
use Rattle.graphwire.specs.Wire.{no_room_number, written_number}

pub no_room-written : (r : Result ℕ Refusal) → written_number r ≡ no_room_number → ⊥
no_room-written (Ok n) h = omega arith
no_room-written (Err r) h = omega (arith, refusal_number_between r)
