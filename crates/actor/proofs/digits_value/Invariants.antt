-- `actor::digits_value` meets its contract. The loop's invariant: the value has i digits, at most 18, and goes on with what follows
-- as the number does. Assumes nothing.
use Rattle.std.proofs.Common.{◌≡◌, ◌-◌, ◌^◌, ◌≤◌, ◌<◌, drop}
use Rattle.actor.specs.Person.{digits}
use Rattle.actor.proofs.digits_value.Given as goal

abbrev pub invariant-loop-i : goal.invariant-loop-i
invariant-loop-i l = (l.i ≤ 18) × (l.value < 10 ^ l.i) × (digits 18 0 l.b ≡ digits (18 - l.i) l.value (drop l.i l.b))
