-- `lists::pass_to_parents` meets its contract: after i turns the memory reads as the painting with i parents looked at. What is left of the list grows shorter. Assumes nothing.
use Rattle.std.proofs.lemmas.Result.{err_from_is_err_and}
use mathlib.Core.Path.{ap, ◌∙◌}
use native.Mathlib.Omega.{arith}
use lib.ListN.{length}
use Rattle.reading.proofs.ByValue.{id_in-kind, gives_length}
use Rattle.frontier.proofs.Steps.{passing_first, passing_next, passing_stop, passing_last}
use Rattle.hash.specs.Bytes.{width_of}
use Rattle.frontier.proofs.lists.pass_to_parents.Goals as goal

pub loop-i-init : goal.loop-i-init
loop-i-init c = let x = c.args in passing_first (width_of x.kind) x.cache x.graph.now x.store.now x.cap _ _ x.commit x.bits

pub loop-i-preserved : goal.loop-i-preserved
loop-i-preserved c = let n = c.parent_count-n.ensures in
    passing_next c.loop-i.invariant (omega (arith, n, c.loop-i-test.true)) c.id_slice.ensures (ap length c.id_slice.ensures ∙ id_in-kind c.args.kind _ (gives_length _ c.parent_of-id.ensures)) c.parent_of-id.ensures (record { names = c.pass_one.auto.names; marks = c.pass_one.auto.marks; levels = c.pass_one.auto.levels; times = c.pass_one.auto.times; line = c.pass_one.auto.line }) c.in_ok-q.ensures

pub shape_of-names : goal.shape_of-names
shape_of-names c = c.loop-i.invariant.long.names

pub shape_of-marks : goal.shape_of-marks
shape_of-marks c = c.loop-i.invariant.long.marks

pub shape_of-levels : goal.shape_of-levels
shape_of-levels c = c.loop-i.invariant.long.levels

pub shape_of-times : goal.shape_of-times
shape_of-times c = c.loop-i.invariant.long.times

pub shape_of-line : goal.shape_of-line
shape_of-line c = c.loop-i.invariant.long.line

pub returns : goal.returns
returns c = passing_last c.loop-i.invariant (omega (arith, c.parent_count-n.ensures, c.loop-i-test.false))

pub returns-in_err-q : goal.returns-in_err-q
returns-in_err-q c = let p = err_from_is_err_and c.from_residual.result c.from_residual.ensures.1 in
    let n = c.parent_count-n.ensures in
    rw (p.1, p.2)
    (passing_stop c.loop-i.invariant (omega (arith, n, c.loop-i-test.true)) c.id_slice.ensures (ap length c.id_slice.ensures ∙ id_in-kind c.args.kind _ (gives_length _ c.parent_of-id.ensures)) c.parent_of-id.ensures c.in_err-q.ensures)
