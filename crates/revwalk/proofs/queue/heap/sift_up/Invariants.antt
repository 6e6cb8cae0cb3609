-- With x put into the hole, a turn exchanges it with the one above; it stops where x goes after the one above, or at the root.
use borrow.Author.Rules.{rules}
use borrow.Author.Tests.{not-true, not-false}
use mathlib.Core.Path.{sym, ◌∙◌}
use native.Mathlib.Omega.{arith}
use lib.ListN.{length-set}
use Rattle.revwalk.specs.Order.{goes}
use Rattle.revwalk.proofs.QueueShares.{lawful}
use Rattle.revwalk.proofs.QueueMoves.{Rising, rise_begin, rise-step, rise-stop, rise-top}
use Rattle.revwalk.proofs.queue.heap.sift_up.Given as goal

abbrev pub invariant-loop-i : goal.invariant-loop-i
invariant-loop-i l = Rising (goes l.newest l.times l.cap) l.cap l.hole l.x l.initial.line l.line l.i

abbrev pub decreases-loop-i : goal.decreases-loop-i
decreases-loop-i l = l.i
