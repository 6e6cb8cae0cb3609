-- The number of calls that are left falls.
use Rattle.runs.proofs.calls.Given as goal

abbrev pub decreases-loop-left : goal.decreases-loop-left
decreases-loop-left g l = l.left
