-- `terms::clear` meets its contract: after i turns the first i counts are 0. Assumes nothing.
use Prim.Native.Nat.{◌-◌}
use Rattle.tally.proofs.Counting.{Cleared, cleared-start, cleared-next, cleared-all}
use borrow.Author.Rules.{rules}
use Rattle.tally.proofs.terms.clear.Goals as goal

pub loop-i-init : goal.loop-i-init
loop-i-init c = cleared-start

pub loop-i-preserved : goal.loop-i-preserved
loop-i-preserved c = cleared-next c.loop-i.invariant c.loop-i-test.true

pub shape_of-counts : goal.shape_of-counts
shape_of-counts c = c.loop-i.invariant.long

pub returns : goal.returns
returns c = cleared-all c.loop-i.invariant c.loop-i-test.false
