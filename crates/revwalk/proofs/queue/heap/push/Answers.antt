-- Each test that refuses contradicts a good queue with room for the slot; else sift_up has put the slot in.
use mathlib.Core.Path.{◌∙◌}
use native.Mathlib.Omega.{arith}
use lib.ListN.{length-set}
use Rattle.revwalk.proofs.QueueGood.{good-room, good_left, refused}
use Rattle.revwalk.proofs.QueueHeap.{pushes}
use borrow.Author.Rules.{rules}
use Rattle.revwalk.proofs.queue.heap.push.Goals as goal

pub returns-then-line-cap : goal.returns-then-line-cap
returns-then-line-cap c = refused (λ g s f n. omega (arith, good-room g))

pub returns-then-cap-n : goal.returns-then-cap-n
returns-then-cap-n c = refused (λ g s f n. omega (arith, good_left g _ s f))

pub returns-then-cap-s : goal.returns-then-cap-s
returns-then-cap-s c = refused (λ g s f n. omega arith)

pub returns-then-next : goal.returns-then-next
returns-then-next c = refused (λ g s f n. omega arith)

pub sift_up-requires : goal.sift_up-requires
sift_up-requires c = rw length-set (omega arith)

pub shape_of-line : goal.shape_of-line
shape_of-line c = c.sift_up.auto.line ∙ simp length-set

pub returns : goal.returns
returns c = pushes c.requires c.if-line-cap.false c.if-cap-n.false c.if-cap-s.false (c.sift_up.auto.line ∙ simp length-set) c.sift_up.ensures
