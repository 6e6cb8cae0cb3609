-- The result for no room is no report's number: a refusal's lies below 100, and a whole report is 0. Assumes nothing.
use Rattle.std.specs.Prelude.{Err, Ok, Result}
use Rattle.walk.specs.declared.Refusal.{Refusal}
use mathlib.Core.Path.{◌≡◌}
use native.Mathlib.Omega.{arith}
use Rattle.walk.proofs.Outcomes.{refusal_number_between}
use Rattle.reportwire.specs.Feed.{no_room_number, reported_number}

pub no_room-report : (o : Result (Unit {0}) Refusal) → reported_number o ≡ no_room_number → ⊥
no_room-report (Ok _) h = omega arith
no_room-report (Err r) h = omega (arith, refusal_number_between r)
