-- The result for no room is no answer's number: a refusal's lies below 100, and all else is 0. Assumes nothing.
use Rattle.std.specs.Prelude.{Ok, Err}
use mathlib.Core.Path.{◌≡◌}
use native.Mathlib.Omega.{arith}
use Rattle.walk.proofs.Outcomes.{refusal_number_between}
use Rattle.mergebase.specs.Parting.{MergeBase}
use Rattle.mergewire.specs.Wire.{no_room_number, parted_number}

pub no_room-base : (o : MergeBase) → parted_number o ≡ no_room_number → ⊥
no_room-base (Ok c) h = omega arith
no_room-base (Err r) h = omega (arith, refusal_number_between r)
