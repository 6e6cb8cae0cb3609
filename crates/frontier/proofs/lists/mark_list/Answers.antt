-- `lists::mark_list` meets its contract: after i turns the memory reads as the painting of the first i ids. What is left of the list grows shorter. Assumes nothing.
use Rattle.std.proofs.lemmas.Result.{err_from_is_err_and}
use mathlib.Core.Path.{sym, ap, ◌∙◌}
use native.Mathlib.Omega.{arith}
use Prim.Native.Nat.{◌/◌, ◌<◌}
use lib.ListN.{length}
use Rattle.walk.specs.Opening.{list_ids}
use Rattle.walk.specs.Painting.{mark, mark_all}
use Rattle.walk.proofs.Whole.{length_list}
use Rattle.reading.proofs.IdLists.{list_at, list-width}
use Rattle.frontier.proofs.Steps.{on-first, on-next, on-stop, on-last, mark_all_nil, mark_all_snoc}
use Rattle.hash.specs.Bytes.{width_of}
use Rattle.frontier.proofs.lists.mark_list.Goals as goal

pub loop-i-init : goal.loop-i-init
loop-i-init c = let x = c.args in on-first (width_of x.kind) mark mark_all mark_all_nil mark_all_snoc x.cache x.graph.now x.store.now x.cap _ (list_ids (width_of x.kind) x.list.now) x.bits _ x.p

pub loop-i-preserved : goal.loop-i-preserved
loop-i-preserved c = let b = c.args.list.now in
    let n = c.id_count-n.ensures in
    let h : c.loop-i.i < length b / width_of c.args.kind = omega (arith, n, c.loop-i-test.true) in
    let e = c.nth-id.ensures in
    on-next (width_of c.args.kind) mark mark_all mark_all_nil mark_all_snoc c.loop-i.invariant c.loop-i-test.true (n ∙ sym (length_list (width_of c.args.kind) b)) (ap length e ∙ list-width (width_of c.args.kind) b c.loop-i.i h) (e ∙ list_at (width_of c.args.kind) b c.loop-i.i h) (record { names = c.mark_one.auto.names; marks = c.mark_one.auto.marks; levels = c.mark_one.auto.levels; times = c.mark_one.auto.times; line = c.mark_one.auto.line }) c.in_ok-q.ensures

pub shape_of-names : goal.shape_of-names
shape_of-names c = c.loop-i.invariant.long.names

pub shape_of-marks : goal.shape_of-marks
shape_of-marks c = c.loop-i.invariant.long.marks

pub shape_of-levels : goal.shape_of-levels
shape_of-levels c = c.loop-i.invariant.long.levels

pub shape_of-times : goal.shape_of-times
shape_of-times c = c.loop-i.invariant.long.times

pub shape_of-line : goal.shape_of-line
shape_of-line c = c.loop-i.invariant.long.line

pub returns : goal.returns
returns c = on-last (width_of c.args.kind) mark mark_all mark_all_nil mark_all_snoc c.loop-i.invariant c.loop-i-test.false (c.id_count-n.ensures ∙ sym (length_list (width_of c.args.kind) c.args.list.now))

pub returns-in_err-q : goal.returns-in_err-q
returns-in_err-q c = let p = err_from_is_err_and c.from_residual.result c.from_residual.ensures.1 in
    let b = c.args.list.now in
    let n = c.id_count-n.ensures in
    let h : c.loop-i.i < length b / width_of c.args.kind = omega (arith, n, c.loop-i-test.true) in
    let e = c.nth-id.ensures in
    rw (p.1, p.2)
    (on-stop (width_of c.args.kind) mark mark_all mark_all_nil mark_all_snoc c.loop-i.invariant c.loop-i-test.true (n ∙ sym (length_list (width_of c.args.kind) b)) (ap length e ∙ list-width (width_of c.args.kind) b c.loop-i.i h) (e ∙ list_at (width_of c.args.kind) b c.loop-i.i h) c.in_err-q.ensures)
