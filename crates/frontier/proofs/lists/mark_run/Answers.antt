-- `lists::mark_run` meets its contract: after i turns the memory reads as the painting of the commits in the first i slots. What is left of them grows fewer. Assumes nothing.
use Rattle.std.proofs.lemmas.Result.{err_from_is_err_and}
use mathlib.Core.Path.{ap, ◌∙◌}
use native.Mathlib.Omega.{arith}
use lib.ListN.{length}
use Rattle.object.specs.Ids.{id_in}
use Rattle.object.proofs.IdBytes.{padded_length}
use Rattle.reading.proofs.ByValue.{id_in-kind}
use Rattle.frontier.proofs.Runs.{running_first, running_next, running_stop, running_last}
use Rattle.hash.specs.Bytes.{width_of}
use Rattle.frontier.proofs.lists.mark_run.Goals as goal

pub loop-i-init : goal.loop-i-init
loop-i-init c = let x = c.args in running_first (width_of x.kind) x.cache x.graph.now x.store.now x.cap _ _ x.from x.n x.bits

pub loop-i-preserved : goal.loop-i-preserved
loop-i-preserved c = running_next c.loop-i.invariant c.slot_after-slot.result c.loop-i-test.true c.slot_after-slot.ensures (c.id_slice.ensures ∙ ap (id_in _) c.id_in-id.ensures) (ap length (c.id_slice.ensures ∙ ap (id_in _) c.id_in-id.ensures) ∙ id_in-kind c.args.kind _ (padded_length _)) (record { names = c.mark_one.auto.names; marks = c.mark_one.auto.marks; levels = c.mark_one.auto.levels; times = c.mark_one.auto.times; line = c.mark_one.auto.line }) c.in_ok-q.ensures

pub shape_of-names : goal.shape_of-names
shape_of-names c = c.loop-i.invariant.long.names

pub shape_of-marks : goal.shape_of-marks
shape_of-marks c = c.loop-i.invariant.long.marks

pub shape_of-levels : goal.shape_of-levels
shape_of-levels c = c.loop-i.invariant.long.levels

pub shape_of-times : goal.shape_of-times
shape_of-times c = c.loop-i.invariant.long.times

pub shape_of-line : goal.shape_of-line
shape_of-line c = c.loop-i.invariant.long.line

pub returns : goal.returns
returns c = running_last c.loop-i.invariant c.loop-i-test.false

pub returns-in_err-q : goal.returns-in_err-q
returns-in_err-q c = let p = err_from_is_err_and c.from_residual.result c.from_residual.ensures.1 in
    rw (p.1, p.2)
    (running_stop c.loop-i.invariant c.slot_after-slot.result c.loop-i-test.true c.slot_after-slot.ensures (c.id_slice.ensures ∙ ap (id_in _) c.id_in-id.ensures) (ap length (c.id_slice.ensures ∙ ap (id_in _) c.id_in-id.ensures) ∙ id_in-kind c.args.kind _ (padded_length _)) c.in_err-q.ensures)
