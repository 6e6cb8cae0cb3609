-- `merge` meets its contract: what is set down and what is still to be merged make the whole list, and of the two first slots
-- the one that comes first in it is set down next. Assumes nothing.
use borrow.Author.Rules.{rules}
use native.Mathlib.Omega.{arith}
use mathlib.Core.Logic.{inr, ⊎_elim}
use Rattle.pending.specs.Pending.{ahead}
use Rattle.pending.proofs.RunsMerged.{merging-none, merging-older, merging-younger, merging-all}
use Rattle.pending.proofs.merge.Goals as goal

pub loop-b-init : goal.loop-b-init
loop-b-init c =
    let x = c.args in
    merging-none (ahead x.levels.now x.times.now) x.line.now x.low x.high x.start x.end c.requires.0 c.requires.1 c.requires.2 c.requires.3

pub is_older_first-requires : goal.is_older_first-requires
is_older_first-requires c = record { older = search rules; younger = search rules; some = inr c.loop-b-test.true }

pub offset_bounds-line-a : goal.offset_bounds-line-a
offset_bounds-line-a c = let k = c.is_older_first.ensures.from-older c.if-is_older_first.true in search rules

pub bounds-line-a : goal.bounds-line-a
bounds-line-a c = let k = c.is_older_first.ensures.from-older c.if-is_older_first.true in search rules

pub overflow_add-a : goal.overflow_add-a
overflow_add-a c = let k = c.is_older_first.ensures.from-older c.if-is_older_first.true in search rules

pub loop-b-smaller : goal.loop-b-smaller
loop-b-smaller c = let f = c.is_older_first.ensures in
    ⊎_elim
    (λ w. omega (arith, f.from-older w.if-is_older_first.true, w.a-is, w.b-is))
    (λ w. omega (arith, w.a-is, w.b-is))
    c.if-is_older_first.branch-raw

pub loop-b-preserved : goal.loop-b-preserved
loop-b-preserved c =
    let x = c.args in
    let t = c.loop-b-test.true in
    let f = c.is_older_first.ensures in
    ⊎_elim
    (λ w. rw (w.line-is, w.a-is, w.b-is) (merging-older (ahead x.levels.now x.times.now) x.line.now x.low x.high x.start x.end c.requires.0 c.requires.1 c.requires.2 c.requires.3 c.loop-b.line c.loop-b.o c.loop-b.a c.loop-b.b c.loop-b.invariant t (f.from-older w.if-is_older_first.true) (f.older w.if-is_older_first.true)))
    (λ w. rw (w.line-is, w.a-is, w.b-is) (merging-younger (ahead x.levels.now x.times.now) x.line.now x.low x.high x.start x.end c.requires.0 c.requires.1 c.requires.2 c.requires.3 c.loop-b.line c.loop-b.o c.loop-b.a c.loop-b.b c.loop-b.invariant t (f.younger w.if-is_older_first.false)))
    c.if-is_older_first.branch-raw

pub shape_of-line : goal.shape_of-line
shape_of-line c = c.loop-b.invariant.long

pub returns : goal.returns
returns c =
    let x = c.args in
    merging-all (ahead x.levels.now x.times.now) x.line.now x.low x.high x.start x.end c.requires.0 c.requires.1 c.requires.2 c.requires.3 c.loop-b.line c.loop-b.o c.loop-b.a c.loop-b.b c.loop-b.invariant c.loop-b-test.false
