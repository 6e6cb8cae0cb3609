-- `reportwire::terms::terms` meets its contract: without room nothing is done; else what the report says is set down. Assumes nothing.
use mathlib.Core.Path.{◌≡◌, ◌∙◌, ap}
use lib.IntN.{ℤ}
use mir.Syntax.{w64}
use mir.Val.{to_z, of_z}
use mir.Facts.{to_z-of_z}
use borrow.Author.Tests.{not-true, not-false}
use Rattle.opening.specs.Checks.{input_of}
use Rattle.traverse.specs.Open.{lent_of}
use Rattle.wire.specs.Numbers.{settings_of}
use Rattle.reportwire.proofs.Counting.{no_room-counts, counts-says}
use borrow.Author.Rules.{rules}
use Rattle.reportwire.proofs.terms.terms.Goals as goal

pub returns-then-not-can_count : goal.returns-then-not-can_count
returns-then-not-can_count c = let x = c.args in
    no_room-counts (input_of x.store.now x.graph.now x.tips.now x.hidden.now x.excluded.now (settings_of x.width x.sorting x.limited x.cutoff x.first)) x.months.now (lent_of x.names.now x.marks.now x.levels.now x.times.now x.line.now x.parents.now) x.counts.now x.numbers.now c.can_count.ensures c.if-not-can_count.true

pub returns : goal.returns
returns c =
    let x = c.args in
    let l = c.terms_report-r.new in
    let told : to_z w64 (of_z w64 x.cutoff) ≡ x.cutoff = to_z-of_z c.ranges.cutoff in
    let e = c.settings_of-settings.ensures ∙ ap (λ (z : ℤ). settings_of x.width x.sorting x.limited z x.first) told in
    counts-says {m = lent_of x.names.now x.marks.now x.levels.now x.times.now x.line.now x.parents.now}
    {m' = lent_of l.names l.marks l.levels l.times l.line l.parents}
    {counts' = l.counts}
    (ap (input_of x.store.now x.graph.now x.tips.now x.hidden.now x.excluded.now) e)
    c.can_count.ensures (c.if-not-can_count.false) c.terms_report-r.ensures c.put_outside.ensures
