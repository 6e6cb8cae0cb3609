-- The result for no room is no answer's number: a refusal's lies below 100, and all else is 0. Assumes nothing.
use Rattle.std.specs.Prelude.{Ok, Err}
use mathlib.Core.Path.{◌≡◌}
use native.Mathlib.Omega.{arith}
use Rattle.walk.proofs.Outcomes.{refusal_number_between}
use Rattle.trace.specs.Call.{Traced}
use Rattle.tracewire.specs.Wire.{no_room_number, prospect_number}

pub no_room_trace : (o : Traced) → prospect_number o ≡ no_room_number → ⊥
no_room_trace (Ok o) h = omega arith
no_room_trace (Err r) h = omega (arith, refusal_number_between r)
