-- `object::count_parents` meets its contract: n parent lines were passed, and the lines that are left are counted from there.
-- Assumes nothing.
use Prim.Native.Nat.{◌-◌}
use Rattle.object.specs.Header.{most}
use Rattle.object.proofs.Parents.{Counted}
use Rattle.hash.specs.Bytes.{width_of}
use borrow.Author.Rules.{rules}
use Rattle.object.proofs.count_parents.Given as goal

abbrev pub invariant-loop-n : goal.invariant-loop-n
invariant-loop-n l = Counted (width_of l.kind) most l.body l.at l.n l.p

abbrev pub decreases-loop-n : goal.decreases-loop-n
decreases-loop-n l = 256 - l.n
