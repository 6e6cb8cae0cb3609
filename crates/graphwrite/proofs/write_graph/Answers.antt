-- `graphwrite::write_graph` meets its contract: a plan tells what is written, and the output's length is tested before a byte is. Assumes nothing.
use native.Mathlib.Omega.{arith}
use Rattle.hash.specs.Bytes.{width_of}
use Rattle.graphwrite.specs.Writing.{Bytes}
use Rattle.hash.proofs.Widths.{width_least}
use Rattle.graphplan.proofs.Planning.{plan-small}
use Rattle.graphwrite.proofs.Laid.{writes-not, writes_short, writes-file, file-from}
use Rattle.graphwrite.proofs.write_graph.Goals as goal

pub file_length-len-requires : goal.file_length-len-requires
file_length-len-requires c = let x = c.args in
    let p = plan-small (width_of x.kind) x.store.now x.levels.now _ c.judge.result c.judge.ensures (width_least x.kind) _ c.in_ok-plan.was in
    (omega (arith, p.0), omega (arith, p.1))

pub returns-in_err-plan : goal.returns-in_err-plan
returns-in_err-plan c = let x = c.args in
    let b : Bytes x.store.now = record { each = λ k. omega (arith, c.type_inv.store k) } in
    grind (arith, writes-not x.kind x.store.now x.levels.now _ c.judge.result c.judge.ensures x.out.now, b)

pub returns-then-out-len : goal.returns-then-out-len
returns-then-out-len c = let x = c.args in
    writes_short x.kind x.store.now x.levels.now _ c.judge.result c.judge.ensures _ c.file_length-len.result c.in_ok-plan.was c.file_length-len.ensures x.out.now c.if-out-len.true (record { each = λ k. omega (arith, c.type_inv.store k) })

pub write_file-requires : goal.write_file-requires
write_file-requires c = let x = c.args in
    let w = width_of x.kind in
    let g = file-from x.kind x.store.now x.levels.now _ c.judge.result c.judge.ensures _ c.file_length-len.result c.in_ok-plan.was c.file_length-len.ensures in
    let p = plan-small w x.store.now x.levels.now _ c.judge.result c.judge.ensures (width_least x.kind) _ c.in_ok-plan.was in
    (g.0, g.1, g.2, omega (arith, p.0), omega (arith, p.1), omega (arith, c.file_length-len.ensures, c.if-out-len.false))

pub returns : goal.returns
returns c = let x = c.args in
    writes-file x.kind x.store.now x.levels.now _ c.judge.result c.judge.ensures _ c.file_length-len.result c.in_ok-plan.was c.file_length-len.ensures x.out.now _ c.if-out-len.false c.write_file.ensures (record { each = λ k. omega (arith, c.type_inv.store k) })
