-- `graphwrite::graph_length` meets its contract: a plan tells the length. Assumes nothing.
use native.Mathlib.Omega.{arith}
use Rattle.hash.specs.Bytes.{width_of}
use Rattle.hash.proofs.Widths.{width_least}
use Rattle.graphwrite.proofs.Measured.{measures-rows}
use Rattle.graphplan.proofs.Planning.{plan-small}
use Rattle.graphwrite.proofs.graph_length.Goals as goal

pub file_length-requires : goal.file_length-requires
file_length-requires c = let x = c.args in
    let p = plan-small (width_of x.kind) x.store.now x.levels.now _ c.judge.result c.judge.ensures (width_least x.kind) _ c.in_ok-plan.was in
    (omega (arith, p.0), omega (arith, p.1))

pub returns : goal.returns
returns c = let x = c.args in
    measures-rows (width_of x.kind) x.store.now x.levels.now _ c.judge.result c.judge.ensures _ c.file_length.result c.in_ok-plan.was c.file_length.ensures
