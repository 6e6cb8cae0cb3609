-- `sha1::choice_rounds` meets its contract: after t turns the state is that of t rounds. Assumes nothing.
use Rattle.std.proofs.Common.{◌≡◌, ℕ, ◌+◌, ◌-◌, ◌<◌, ◌≤◌, sym, refl, ap, ◌∙◌, arith, rules}
use Rattle.digest.specs.Blocks.{times}
use Rattle.digest.proofs.Lists.{times-again}
use Rattle.sha1_hash.specs.Sha1.{round1}
use Rattle.sha1_hash.proofs.Rounds.{round-choose}
use Rattle.sha1_hash.proofs.choice_rounds.Given as goal

abbrev pub invariant-loop-t : goal.invariant-loop-t
invariant-loop-t l = (l.t ≤ 20) × (l.v ≡ times (round1 l.w) l.t l.initial.v)

abbrev pub decreases-loop-t : goal.decreases-loop-t
decreases-loop-t l = 20 - l.t
