-- `mergewire::merge_base` meets its contract: without room nothing is done; else what the call says is set down. Assumes nothing.
use lib.ListN.{length}
use Rattle.opening.specs.Checks.{lengths_of}
use Rattle.reach.specs.Memory.{lent}
use Rattle.mergewire.proofs.Parts.{no_room-says, made-says}
use Rattle.wire.specs.Words.{kind_of}
use Rattle.mergewire.proofs.merge_base.Goals as goal

pub returns-then-not-can_part : goal.returns-then-not-can_part
returns-then-not-can_part c = let x = c.args in
    no_room-says (kind_of x.width) x.store.now x.one.now x.other.now (lengths_of (length x.names.now) (length x.marks.now) (length x.levels.now) (length x.times.now) (length x.line.now) (length x.parents.now)) (lent x.names.now x.marks.now x.line.now) x.levels.now x.id.now x.numbers.now
    c.kind_of-kind.ensures c.can_part.ensures c.if-not-can_part.true

pub returns : goal.returns
returns c =
    let x = c.args in
    let l = c.merge_base-said.new in
    made-says {store = x.store.now} {one = x.one.now} {other = x.other.now} {l = lengths_of (length x.names.now) (length x.marks.now) (length x.levels.now) (length x.times.now) (length x.line.now) (length x.parents.now)}
    {m = lent x.names.now x.marks.now x.line.now} {m' = lent l.names l.marks l.line} {levels = x.levels.now} {levels' = l.levels} {id = x.id.now} {numbers = x.numbers.now}
    c.kind_of-kind.ensures c.can_part.ensures c.if-not-can_part.false c.id_of.ensures c.id_of-2.ensures c.merge_base-said.ensures c.put_base.ensures
