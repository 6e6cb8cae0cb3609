-- `reportwire::feed` meets its contract: without room nothing is done; else what the report says is set down. Assumes nothing.
use mathlib.Core.Path.{◌≡◌, ◌∙◌, ap}
use lib.IntN.{ℤ}
use mir.Syntax.{w64}
use mir.Val.{to_z, of_z}
use mir.Facts.{to_z-of_z}
use borrow.Author.Tests.{not-true, not-false}
use Rattle.opening.specs.Checks.{input_of}
use Rattle.traverse.specs.Open.{lent_of}
use Rattle.wire.specs.Numbers.{settings_of}
use Rattle.reportwire.specs.Feed.{reader_of}
use Rattle.reportwire.proofs.Feeding.{no_room-says, made-says}
use borrow.Author.Rules.{rules}
use Rattle.reportwire.proofs.feed.Goals as goal

pub returns-then-not-can_feed : goal.returns-then-not-can_feed
returns-then-not-can_feed c = let x = c.args in
    no_room-says (reader_of x.outside) x.embargoed.now (input_of x.store.now x.graph.now x.tips.now x.hidden.now x.excluded.now (settings_of x.width x.sorting x.limited x.cutoff x.first)) (lent_of x.names.now x.marks.now x.levels.now x.times.now x.line.now x.parents.now) x.numbers.now x.difference.now c.can_feed.ensures c.if-not-can_feed.true

pub returns : goal.returns
returns c =
    let x = c.args in
    let l = c.feed_report-r.new in
    let told : to_z w64 (of_z w64 x.cutoff) ≡ x.cutoff = to_z-of_z c.ranges.cutoff in
    let e = c.settings_of-settings.ensures ∙ ap (λ (z : ℤ). settings_of x.width x.sorting x.limited z x.first) told in
    made-says {m = lent_of x.names.now x.marks.now x.levels.now x.times.now x.line.now x.parents.now}
    {m' = lent_of l.names l.marks l.levels l.times l.line l.parents}
    c.reader_of-reader.ensures (ap (input_of x.store.now x.graph.now x.tips.now x.hidden.now x.excluded.now) e)
    c.can_feed.ensures (c.if-not-can_feed.false) c.feed_report-r.ensures c.put_feed.ensures
