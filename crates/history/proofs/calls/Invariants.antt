-- The number of calls that may follow falls.
use Rattle.history.proofs.calls.Given as goal

abbrev pub decreases-loop-left : goal.decreases-loop-left
decreases-loop-left g l = l.left
