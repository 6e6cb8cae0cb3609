-- The result for no room is no outcome's number: a refusal's lies below 100, a commit's is 0 and the end's 100. Assumes nothing.
use Rattle.std.specs.Prelude.{Err, Ok, Result}
use Rattle.walk.specs.declared.Refusal.{Refusal}
use mathlib.Core.Path.{◌≡◌}
use native.Mathlib.Omega.{arith}
use Rattle.walk.specs.declared.Outcome.{Outcome}
use Rattle.walk.specs.declared.Outcome.TheVariants.{Commit, End, Refused}
use Rattle.walk.specs.Given.{outcome_number, open_number}
use Rattle.fsck.specs.Names.{checked_number}
use Rattle.walk.proofs.Outcomes.{refusal_number_between}
use Rattle.linenhatch.specs.Library.{no_room_number}

pub no_room-call : (o : Outcome) → outcome_number o ≡ no_room_number → ⊥
no_room-call Commit h = omega arith
no_room-call End h = omega arith
no_room-call (Refused r) h = omega (arith, refusal_number_between r)

pub no_room_open : (o : Result (Unit {0}) Refusal) → open_number o ≡ no_room_number → ⊥
no_room_open (Ok _) h = omega arith
no_room_open (Err r) h = omega (arith, refusal_number_between r)

pub no_room_check : (c : Result (Unit {0}) Refusal) → checked_number c ≡ no_room_number → ⊥
no_room_check (Ok _) h = omega arith
no_room_check (Err r) h = omega (arith, refusal_number_between r)
