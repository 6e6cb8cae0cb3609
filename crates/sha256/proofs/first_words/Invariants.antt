-- `sha256::first_words` meets its contract: after t turns the first t words are those of the block. Assumes nothing.
use Rattle.std.proofs.Common.{◌≡◌, ℕ, ◌+◌, ◌-◌, ◌<◌, ◌≤◌, length, get_or, take, sym, refl, ap, ◌∙◌, arith, length-set, rules}
use Rattle.digest.specs.Blocks.{made}
use Rattle.digest.proofs.Lists.{made_again}
use Rattle.sha256.specs.Sha256.{word256}
use Rattle.sha256.proofs.Rounds.{own-word256}
use Rattle.sha256.proofs.first_words.Given as goal

abbrev pub invariant-loop-t : goal.invariant-loop-t
invariant-loop-t l = (l.t ≤ 16) × (length l.w ≡ 64) × (take l.t l.w ≡ made (word256 l.block) l.t)

abbrev pub decreases-loop-t : goal.decreases-loop-t
decreases-loop-t l = 16 - l.t
