-- `open::filtered` meets its contract: after k turns the memory reads as the state with the first k tips let in. Assumes nothing.
use Prim.Native.Nat.{◌+◌, ◌-◌, ◌<◌}
use native.Mathlib.Omega.{arith}
use Rattle.state.specs.Steps.{mem}
use Rattle.traverse.proofs.OpenLoop.{Turns, turns-start, turns_next, turns-end}
use borrow.Author.Rules.{rules}
use Rattle.hash.specs.Bytes.{width_of}
use Rattle.traverse.proofs.open.filtered.Goals as goal

pub loop-k-init : goal.loop-k-init
loop-k-init c = rw c.ids_in-n.ensures turns-start

pub loop-k-preserved : goal.loop-k-preserved
loop-k-preserved c =
    turns_next c.loop-k.invariant c.loop-k-test.true (rw c.nth-id.ensures at c.take_tip-r.ensures)

pub shape_of-names : goal.shape_of-names
shape_of-names c = c.loop-k.invariant.long.names

pub shape_of-marks : goal.shape_of-marks
shape_of-marks c = c.loop-k.invariant.long.marks

pub shape_of-times : goal.shape_of-times
shape_of-times c = c.loop-k.invariant.long.times

pub shape_of-line : goal.shape_of-line
shape_of-line c = c.loop-k.invariant.long.line

pub returns : goal.returns
returns c = turns-end c.loop-k.invariant (search rules)
