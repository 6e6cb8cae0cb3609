-- `tracewire::trace` meets its contract: without room nothing is done; else what the call says is set down. Assumes nothing.
use Rattle.tracewire.proofs.Traces.{no_room-says, made-says}
use Rattle.wire.specs.Words.{kind_of}
use Rattle.tracewire.proofs.trace.Goals as goal

-- src/lib.rt:100:9
pub returns-then-not-can_trace : goal.returns-then-not-can_trace
returns-then-not-can_trace c = let x = c.args in no_room-says (kind_of x.width) x.store.now x.start.now x.list.now x.d x.memo.now x.id.now x.numbers.now c.kind_of-kind.ensures c.can_trace.ensures c.if-not-can_trace.true

-- src/lib.rt:88:1
pub returns : goal.returns
returns c = let x = c.args in made-says {store = x.store.now} {start = x.start.now} {list = x.list.now} {m = x.memo.now} {m' = c.trace-said.new.memo} {id = x.id.now} {numbers = x.numbers.now} c.kind_of-kind.ensures c.can_trace.ensures c.if-not-can_trace.false c.id_of.ensures c.moves_of.ensures c.trace-said.ensures c.put_traced.ensures
