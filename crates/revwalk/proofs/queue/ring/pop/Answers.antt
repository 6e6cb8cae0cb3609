-- A queue that is refused is not good, or empty, or by time; else the slot at head is the first of the list.
use native.Mathlib.Omega.{arith}
use Rattle.revwalk.proofs.QueueGood.{good-room, good-size, other_none, own-none, own-pops}
use Rattle.revwalk.proofs.QueueRing.{pops}
use borrow.Author.Rules.{rules}
use Rattle.revwalk.proofs.queue.ring.pop.Goals as goal

pub returns-then-q : goal.returns-then-q
returns-then-q c = λ times. other_none c.if-q.true

pub returns-then-line-cap : goal.returns-then-line-cap
returns-then-line-cap c = λ times. own-none (λ o g. absurd (omega (arith, good-room g))) c.if-q.false

pub returns-then-n-eq0 : goal.returns-then-n-eq0
returns-then-n-eq0 c = λ times. own-none (λ o g. c.if-n-eq0.true) c.if-q.false

pub returns-then-cap-head : goal.returns-then-cap-head
returns-then-cap-head c = λ times. own-none (λ o g. let n = good-size g in let d = c.if-n-eq0.false in absurd (omega (arith, (g.ring o).start (omega arith)))) c.if-q.false

pub returns : goal.returns
returns c =
    let x = c.args in
    λ times. own-pops c.if-q.false (pops x.q times x.line.now c.if-q.false _ c.if-n-eq0.false c.if-cap-head.false c.place-p.ensures.0 c.place-p.ensures.1)
