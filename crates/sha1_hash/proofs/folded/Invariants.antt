-- `sha1::folded` meets its contract: after i turns the state is that of i blocks. Assumes nothing.
use Rattle.std.proofs.Common.{◌≡◌, ℕ, ◌+◌, ◌-◌, ◌<◌, ◌≤◌, List, ◌++◌, sym, refl, ap, ◌∙◌, arith, rules}
use Rattle.digest.specs.Blocks.{times, folds, block_words, block_count}
use Rattle.digest.proofs.Lists.{times-again}
use Rattle.sha1_hash.specs.Sha1.{compress1, first1}
use Rattle.sha1_hash.specs.declared.Five.{Five}
use Rattle.sha1_hash.proofs.folded.Given as goal

abbrev pub invariant-loop-i : goal.invariant-loop-i
invariant-loop-i l = (l.i ≤ l.n) × (l.h ≡ folds compress1 (l.head ++ l.body) l.i first1)

abbrev pub decreases-loop-i : goal.decreases-loop-i
decreases-loop-i l = l.n - l.i
