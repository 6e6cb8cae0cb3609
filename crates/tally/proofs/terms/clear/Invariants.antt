-- `terms::clear` meets its contract: after i turns the first i counts are 0. Assumes nothing.
use Prim.Native.Nat.{◌-◌}
use Rattle.tally.proofs.Counting.{Cleared, cleared-start, cleared-next, cleared-all}
use borrow.Author.Rules.{rules}
use Rattle.tally.proofs.terms.clear.Given as goal

abbrev pub invariant-loop-i : goal.invariant-loop-i
invariant-loop-i l = Cleared l.i-end l.initial.counts l.counts l.i

abbrev pub decreases-loop-i : goal.decreases-loop-i
decreases-loop-i l = l.i-end - l.i
