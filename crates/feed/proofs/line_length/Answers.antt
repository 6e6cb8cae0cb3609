-- `feed::line_length` meets its contract. The loop's invariant: no newline stands at any place passed. The measure is what is left.
-- Assumes nothing.
use borrow.Author.Count.{below_more}
use native.Mathlib.Omega.{arith}
use Rattle.actor.proofs.Places.{first-here, first-nowhere}
use Rattle.feed.proofs.Splitting.{length_first, length_all}
use borrow.Author.Rules.{rules}
use Rattle.feed.proofs.line_length.Goals as goal

pub returns-then-b-i-eq10 : goal.returns-then-b-i-eq10
returns-then-b-i-eq10 c =
    let x = c.args in
    length_first x.b.now c.loop-i.i (first-here 10 x.b.now c.loop-i.i (omega arith) c.if-b-i-eq10.true c.loop-i.invariant.1)

pub loop-i-preserved : goal.loop-i-preserved
loop-i-preserved c = (search rules, below_more _ _ c.loop-i.invariant.1 c.if-b-i-eq10.false)

pub returns : goal.returns
returns c =
    let x = c.args in
    length_all x.b.now c.loop-i.i (first-nowhere 10 x.b.now (λ k h. c.loop-i.invariant.1 k (omega arith))) (omega arith)
