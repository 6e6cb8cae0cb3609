-- `sha1::parity_rounds` meets its contract: after t turns the state is that of t rounds, if it was so before. Assumes nothing.
use Rattle.std.proofs.Common.{◌≡◌, ℕ, ◌+◌, ◌-◌, ◌<◌, ◌≤◌, sym, refl, ap, ◌∙◌, arith, rules}
use Rattle.digest.specs.Blocks.{times}
use Rattle.digest.proofs.Lists.{times-again}
use Rattle.sha1_hash.specs.Sha1.{round1}
use Rattle.sha1_hash.specs.declared.Five.{Five}
use Rattle.sha1_hash.proofs.Rounds.{round-parity}
use Rattle.sha1_hash.proofs.parity_rounds.Given as goal

abbrev pub invariant-loop-t : goal.invariant-loop-t
invariant-loop-t l = (20 ≤ l.t) × (l.t ≤ 40) × ((h : Five) → l.initial.v ≡ times (round1 l.w) 20 h → l.v ≡ times (round1 l.w) l.t h)

abbrev pub decreases-loop-t : goal.decreases-loop-t
decreases-loop-t l = 40 - l.t
