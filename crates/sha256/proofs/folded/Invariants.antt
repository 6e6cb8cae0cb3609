-- `sha256::folded` meets its contract: after i turns the state is that of i blocks. Assumes nothing.
use Rattle.std.proofs.Common.{◌≡◌, ℕ, ◌+◌, ◌-◌, ◌<◌, ◌≤◌, List, ◌++◌, sym, refl, ap, ◌∙◌, arith, rules}
use Rattle.digest.specs.Blocks.{times, folds, block_words, block_count}
use Rattle.digest.proofs.Lists.{times-again}
use Rattle.sha256.specs.Sha256.{compress256, first256}
use Rattle.sha256.specs.declared.Eight.{Eight}
use Rattle.sha256.proofs.folded.Given as goal

abbrev pub invariant-loop-i : goal.invariant-loop-i
invariant-loop-i l = (l.i ≤ l.n) × (l.h ≡ folds compress256 (l.head ++ l.body) l.i first256)

abbrev pub decreases-loop-i : goal.decreases-loop-i
decreases-loop-i l = l.n - l.i
