-- `idlist::find_from` meets its contract. The loop's invariant: of rising ids, whatever is the id that is looked for lies in what
-- is left of the range, and the number to look at is one of it; so one that is found is a number of the range, and where nothing is left
-- there was none. What is left shrinks with each turn, wherever the search starts and the guesses fall. Assumes nothing.
use Prim.Native.Nat.{◌-◌, ◌≤◌, ◌<◌}
use lib.ListN.{length}
use Rattle.idlist.proofs.Search.{Keeps}
use Rattle.idlist.proofs.find_from.Given as goal

abbrev pub invariant-loop-left : goal.invariant-loop-left
invariant-loop-left l = Keeps (record { bytes = l.bytes; width = length l.id; base = l.base; stride = l.stride }) l.lo l.hi l.id l.left.lo l.left.hi × (l.left.lo < l.left.hi → (l.left.lo ≤ l.left.mid) × (l.left.mid < l.left.hi))

abbrev pub decreases-loop-left : goal.decreases-loop-left
decreases-loop-left l = l.left.hi - l.left.lo
