-- `call_all` meets its contract: after each turn the tally is that of as many calls of the walk. Assumes nothing.
use mathlib.Core.Path.{ap}
use native.Mathlib.Omega.{arith}
use Rattle.hash.specs.Bytes.{width_of}
use Rattle.walk.specs.Opening.{Lengths}
use Rattle.traverse.specs.Contract.{lengths_of}
use Rattle.traverse.specs.Open.{lent_of}
use Rattle.traverse.specs.Next.{files_lent}
use Rattle.tally.specs.Tally.{Ready}
use Rattle.tally.proofs.Few.{few_up}
use Rattle.driver.proofs.Turns.{Turns, turns-start, left-low, turns_next, turns-end}
use borrow.Author.Rules.{rules}
use Rattle.driver.proofs.call_all.Goals as goal

pub loop-left-init : goal.loop-left-init
loop-left-init c = turns-start c.requires.1 c.requires.4

pub loop-left-smaller : goal.loop-left-smaller
loop-left-smaller c = omega (arith, c.calls_left-left.ensures, left-low c.args.task c.fold-t.result c.loop-left.left c.step-o.result.answer.outcome c.loop-left-test.true)

pub loop-left-preserved : goal.loop-left-preserved
loop-left-preserved c = let ready : Ready (width_of c.args.settings.kind) c.args.terms.now c.args.store.now c.loop-left.d.tally c.loop-left.counts = record { store-good = c.requires.2 (omega (arith, c.loop-left-test.true, c.loop-left.invariant.low)); terms-good = c.requires.3; low = few_up c.loop-left.invariant.spent 4294967296 _ (omega (arith, c.loop-left.invariant.low, c.requires.0)) c.loop-left.invariant.few; few = λ k. omega (arith, c.loop-left.invariant.few_in k, c.loop-left.invariant.low, c.requires.0) } in turns_next c.loop-left.invariant c.step-o.result c.loop-left-test.true c.step-o.ensures (c.fold-t.ensures ready).0 c.went_on-d.ensures (c.fold-t.ensures ready).1 (c.fold-t.ensures ready).2 c.calls_left-left.ensures

pub shape_of-names : goal.shape_of-names
unfolding lengths_of
shape_of-names c = ap (λ (q : Lengths). q.names) c.loop-left.invariant.same-lengths

pub shape_of-marks : goal.shape_of-marks
unfolding lengths_of
shape_of-marks c = ap (λ (q : Lengths). q.marks) c.loop-left.invariant.same-lengths

pub shape_of-levels : goal.shape_of-levels
unfolding lengths_of
shape_of-levels c = ap (λ (q : Lengths). q.levels) c.loop-left.invariant.same-lengths

pub shape_of-times : goal.shape_of-times
unfolding lengths_of
shape_of-times c = ap (λ (q : Lengths). q.times) c.loop-left.invariant.same-lengths

pub shape_of-line : goal.shape_of-line
unfolding lengths_of
shape_of-line c = ap (λ (q : Lengths). q.line) c.loop-left.invariant.same-lengths

pub shape_of-parents : goal.shape_of-parents
unfolding lengths_of
shape_of-parents c = ap (λ (q : Lengths). q.parents) c.loop-left.invariant.same-lengths

pub shape_of-ids : goal.shape_of-ids
shape_of-ids c = c.loop-left.invariant.long-ids

pub shape_of-counts : goal.shape_of-counts
shape_of-counts c = c.loop-left.invariant.long_in

pub returns : goal.returns
returns c = turns-end c.loop-left.invariant (search rules)
