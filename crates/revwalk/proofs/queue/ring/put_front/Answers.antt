-- As push does, at the place before head.
use native.Mathlib.Omega.{arith}
use Rattle.revwalk.proofs.QueueGood.{good-room, good_left, refused}
use Rattle.revwalk.proofs.QueueRing.{fronts, back-ring}
use borrow.Author.Rules.{rules}
use Rattle.revwalk.proofs.queue.ring.put_front.Goals as goal

pub returns-then-line-cap : goal.returns-then-line-cap
returns-then-line-cap c = λ times. back-ring c.requires (refused (λ g s f n. omega (arith, good-room g)))

pub returns-then-cap-n : goal.returns-then-cap-n
returns-then-cap-n c = λ times. back-ring c.requires (refused (λ g s f n. omega (arith, good_left g _ s f)))

pub returns-then-cap-head : goal.returns-then-cap-head
returns-then-cap-head c = λ times. back-ring c.requires (refused (λ g s f n. omega (arith, (g.ring c.requires).start (omega arith))))

pub returns : goal.returns
returns c = λ times. back-ring c.requires (fronts c.args.q times c.args.line.now c.requires _ _ c.if-line-cap.false c.if-cap-n.false c.if-cap-head.false c.place-p.ensures.1 c.place-p.ensures.0)
