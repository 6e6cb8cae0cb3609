-- `lacking_in` meets its contract: all in front of place i have STALE, so the answer for all is the answer for the rest. Assumes nothing.
use mathlib.Core.Path.{refl, sym, ◌∙◌}
use Rattle.pending.specs.Pending.{stale_at}
use Rattle.pending.proofs.Popping.{fresh-next, fresh-here, fresh-end, fresh-past}
use Rattle.pending.proofs.lacking_in.Goals as goal

pub loop-i-init : goal.loop-i-init
loop-i-init c = refl

pub returns-then-line-i : goal.returns-then-line-i
returns-then-line-i c =
    let x = c.args in
    sym (c.loop-i.invariant ∙ fresh-past (stale_at x.marks.now) x.line.now c.loop-i.i x.to c.if-line-i.true)

pub returns-then-not-is_stale : goal.returns-then-not-is_stale
returns-then-not-is_stale c =
    let x = c.args in
    sym (c.loop-i.invariant ∙ fresh-here (stale_at x.marks.now) x.line.now c.loop-i.i x.to c.loop-i-test.true c.if-line-i.false (sym c.is_stale.ensures ∙ c.if-not-is_stale.true))

pub loop-i-preserved : goal.loop-i-preserved
loop-i-preserved c =
    let x = c.args in
    c.loop-i.invariant ∙ fresh-next (stale_at x.marks.now) x.line.now c.loop-i.i x.to c.loop-i-test.true c.if-line-i.false (sym c.is_stale.ensures ∙ c.if-not-is_stale.false)

pub returns : goal.returns
returns c =
    let x = c.args in
    sym (c.loop-i.invariant ∙ fresh-end (stale_at x.marks.now) x.line.now c.loop-i.i x.to c.loop-i-test.false)
