-- With x put into the hole, a turn exchanges it with the one above; it stops where x goes after the one above, or at the root.
use borrow.Author.Rules.{rules}
use borrow.Author.Tests.{not-true, not-false}
use mathlib.Core.Path.{sym, ◌∙◌}
use native.Mathlib.Omega.{arith}
use lib.ListN.{length-set}
use Rattle.revwalk.specs.Order.{goes}
use Rattle.revwalk.proofs.QueueShares.{lawful}
use Rattle.revwalk.proofs.QueueMoves.{Rising, rise_begin, rise-step, rise-stop, rise-top}
use Rattle.revwalk.proofs.queue.heap.sift_up.Goals as goal

pub loop-i-init : goal.loop-i-init
loop-i-init c = rise_begin _ _ _ _ _

pub shape_of-line-then-not-is_before : goal.shape_of-line-then-not-is_before
shape_of-line-then-not-is_before c = simp length-set (omega arith)

pub returns-then-not-is_before : goal.returns-then-not-is_before
returns-then-not-is_before c = rise-stop (lawful _ _ _) c.loop-i.invariant c.requires c.loop-i-test.true (sym c.is_before.ensures ∙ c.if-not-is_before.true)

pub loop-i-preserved : goal.loop-i-preserved
loop-i-preserved c = rise-step (lawful _ _ _) c.loop-i.invariant c.requires c.loop-i-test.true (sym c.is_before.ensures ∙ c.if-not-is_before.false)

pub shape_of-line : goal.shape_of-line
shape_of-line c = simp length-set (omega arith)

pub returns : goal.returns
returns c = rise-top (lawful _ _ _) c.loop-i.invariant c.requires c.loop-i-test.false
