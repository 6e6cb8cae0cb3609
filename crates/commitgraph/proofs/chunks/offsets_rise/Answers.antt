-- `chunks::offsets_rise` meets its contract. The loop's invariant: the offsets of the first i rows never fall. Assumes nothing.
use native.Mathlib.Omega.{arith}
use borrow.Author.Rules.{rules}
use mathlib.Core.Path.{◌≡◌, refl, sym}
use mathlib.Core.Bool.{true}
use Prim.Native.Nat.{◌≤◌, ◌-◌}
use Rattle.commitgraph.specs.Graph.{offsets_rise}
use Rattle.commitgraph.proofs.Table.{offsets_more, offsets_fall}
use Rattle.commitgraph.proofs.chunks.offsets_rise.Goals as goal

pub loop-i-init : goal.loop-i-init
unfolding offsets_rise
loop-i-init c = (search rules, refl)

pub returns-then-row_offset : goal.returns-then-row_offset
returns-then-row_offset c = let x = c.args in
    let i = c.loop-i.i in
    sym (offsets_fall x.graph.now x.count i c.loop-i-test.true (rw (c.row_offset.ensures, c.row_offset-in-loop-i.ensures) at c.if-row_offset.true))

pub loop-i-preserved : goal.loop-i-preserved
loop-i-preserved c = let x = c.args in
    let i = c.loop-i.i in
    (search rules, offsets_more x.graph.now i c.loop-i.invariant.1 (rw (c.row_offset.ensures, c.row_offset-in-loop-i.ensures) at c.if-row_offset.false))

pub returns : goal.returns
returns c = let x = c.args in
    let z : c.loop-i.i ≡ x.count = omega arith in
    sym (rw z at c.loop-i.invariant.1)
