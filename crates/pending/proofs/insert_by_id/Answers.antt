-- `insert_by_id` meets its contract: each refusal lacks room, and else the slot stands at the place that was found. Assumes nothing.
use native.Mathlib.Omega.{arith}
use Rattle.pending.proofs.ByIds.{sorts-room, sorts_refused}
use Rattle.hash.specs.Bytes.{width_of}
use Rattle.pending.proofs.insert_by_id.Goals as goal

pub returns-then-line-from : goal.returns-then-line-from
returns-then-line-from c = let x = c.args in sorts_refused (width_of x.kind) x.names.now x.slot x.from x.n x.line.now (omega arith)

pub returns-then-line-from-2 : goal.returns-then-line-from-2
returns-then-line-from-2 c = let x = c.args in sorts_refused (width_of x.kind) x.names.now x.slot x.from x.n x.line.now (omega arith)

pub returns : goal.returns
returns c = let x = c.args in
    sorts-room (width_of x.kind) x.names.now x.slot x.from x.n x.line.now (omega (arith, c.if-line-from-2.false)) c.place_by_id-k.result c.place_by_id-k.ensures
    c.put_in.new.line c.put_in.ensures
