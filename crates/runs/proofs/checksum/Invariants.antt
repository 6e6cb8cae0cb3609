-- The sum stays below its modulus, so a step of it fits.
use Rattle.std.proofs.Common.{◌<◌}
use Rattle.runs.proofs.checksum.Given as goal

abbrev pub invariant-loop-i : goal.invariant-loop-i
invariant-loop-i l = l.sum < 65521
