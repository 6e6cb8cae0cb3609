-- `rowvisit::plain::take_plain` meets its contract: a plain row's list is told by its first two numbers, and is good; where it is not plain no call was made that
-- changes anything. Assumes nothing.
use mathlib.Core.Path.{refl}
use Rattle.hash.specs.Bytes.{width_of}
use Rattle.commitgraph.specs.Graph.{parents_in}
use Rattle.reading.specs.Row.{level_of}
use Rattle.reading.proofs.Rows.{row_read}
use Rattle.rowvisit.proofs.PlainLists.{plain-or-none, level-told, numbers-read, third_read}
use Rattle.rowvisit.proofs.Rows.{judged-good}
use Rattle.rowvisit.proofs.plain.take_plain.Goals as goal

pub returns-then-not-is_plain : goal.returns-then-not-is_plain
returns-then-not-is_plain c = record { right = (refl, refl, refl) }

pub take_first-requires : goal.take_first-requires
take_first-requires c = numbers-read c.width-width.ensures.0 c.row-row.ensures c.be32-first.ensures c.be32-second.ensures

pub returns-in_default : goal.returns-in_default
returns-in_default c = let y = rw c.in_default.is at c.take_first.ensures in record { right = y.right }

pub returns : goal.returns
returns c = let x = c.args in
    let numbers = numbers-read c.width-width.ensures.0 c.row-row.ensures c.be32-first.ensures c.be32-second.ensures in
    let third = third_read (width_of x.settings.kind) x.graph.now x.l x.position c.width-width.ensures.0 c.row-row.ensures c.be32-third.ensures in
    let read = row_read (level_of (width_of x.settings.kind) x.graph.now x.l x.position) (parents_in (width_of x.settings.kind) x.graph.now x.l x.position)
    (plain-or-none numbers c.plain_count-count.ensures (c.is_plain.ensures (c.if-not-is_plain.false))) (level-told (width_of x.settings.kind) x.graph.now x.l x.position c.be32-third.result third c.level.ensures) in
    let y = (rw c.in-Some.is at c.take_first.ensures).right in
    record { right = (y.0, y.1, y.2, judged-good read refl c.followed_count-n.ensures y.3) }
