-- `graphwire::write_graph` meets its contract: without room nothing is done; else what the call says is set down. Assumes nothing.
use Rattle.graphwire.proofs.Calls.{no_room_writes, made_writes}
use Rattle.wire.specs.Words.{kind_of}
use Rattle.graphwire.proofs.write_graph.Goals as goal

pub returns-then-numbers-eq0 : goal.returns-then-numbers-eq0
returns-then-numbers-eq0 c = let x = c.args in
    no_room_writes (kind_of x.width) x.store.now x.levels.now x.out.now x.numbers.now c.if-numbers-eq0.true

pub returns : goal.returns
returns c =
    made_writes c.kind_of.ensures c.if-numbers-eq0.false c.write_graph-w.ensures c.put_length.ensures
