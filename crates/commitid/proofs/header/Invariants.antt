-- `commitid::header` meets its contract: the digits are set down from the last to the first, then the word before them. Assumes nothing.
use Rattle.commitid.proofs.Digits.{Left}
use Rattle.commitid.proofs.header.Given as goal

abbrev pub invariant-loop-x : goal.invariant-loop-x
invariant-loop-x l = Left l.n l.b l.i l.x

abbrev pub decreases-loop-x : goal.decreases-loop-x
decreases-loop-x l = l.x
