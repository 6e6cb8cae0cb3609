-- `sha256::compress` meets its contract: after j turns the state is that of 8 j rounds. Assumes nothing.
use Rattle.std.proofs.Common.{◌≡◌, ℕ, ◌+◌, ◌-◌, ◌*◌, ◌<◌, ◌≤◌, length, sym, refl, ap, ◌∙◌, arith, rules}
use Rattle.digest.specs.Blocks.{times}
use Rattle.sha256.specs.Sha256.{constants256, round256, sum256}
use Rattle.digest.proofs.Lists.{times-then}
use Rattle.sha256.proofs.Rounds.{compressed256}
use Rattle.sha256.proofs.compress.Given as goal

abbrev pub invariant-loop-j : goal.invariant-loop-j
invariant-loop-j l = (l.j ≤ 8) × (l.v ≡ times (round256 l.w) (l.j * 8) l.h)

abbrev pub decreases-loop-j : goal.decreases-loop-j
decreases-loop-j l = 8 - l.j
