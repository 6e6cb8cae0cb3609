-- A turn exchanges the hole with the child that goes first, whatever is to fill it; it ends at a leaf.
use borrow.Author.Rules.{rules}
use Prim.Native.Nat.{◌-◌}
use native.Mathlib.Omega.{arith}
use Rattle.revwalk.specs.Order.{goes}
use Rattle.revwalk.proofs.QueueShares.{lawful}
use Rattle.revwalk.proofs.QueueMoves.{Sinking, sink_begin, sink-step, sink-less, sink-end}
use Rattle.revwalk.proofs.queue.heap.sink.Given as goal

abbrev pub invariant-loop-i : goal.invariant-loop-i
invariant-loop-i l = Sinking (goes l.newest l.times l.cap) l.cap l.n l.initial.line l.line l.i

abbrev pub decreases-loop-i : goal.decreases-loop-i
decreases-loop-i l = l.n - l.i
