-- `rowvisit::numbers::collect_parents` meets its contract: a plain list is told by the numbers, any other is read. Assumes nothing.
use Rattle.hash.specs.Bytes.{width_of}
use Rattle.commitgraph.specs.Graph.{parents_in}
use Rattle.reading.specs.Row.{level_of}
use Rattle.reading.proofs.Rows.{row_read}
use Rattle.rowvisit.proofs.PlainLists.{plain-list, level-told}
use Rattle.rowvisit.proofs.numbers.collect_parents.Goals as goal

pub returns : goal.returns
returns c =
    let x = c.args in
    row_read (level_of (width_of x.kind) x.graph.now x.l x.position) (parents_in (width_of x.kind) x.graph.now x.l x.position) (plain-list c.requires.0 c.plain_count-n.ensures c.if-n-eq0.false) (level-told (width_of x.kind) x.graph.now x.l x.position x.third c.requires.1 c.level.ensures)
