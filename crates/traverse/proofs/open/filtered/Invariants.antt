-- `open::filtered` meets its contract: after k turns the memory reads as the state with the first k tips let in. Assumes nothing.
use Prim.Native.Nat.{◌+◌, ◌-◌, ◌<◌}
use native.Mathlib.Omega.{arith}
use Rattle.state.specs.Steps.{mem}
use Rattle.traverse.proofs.OpenLoop.{Turns, turns-start, turns_next, turns-end}
use borrow.Author.Rules.{rules}
use Rattle.hash.specs.Bytes.{width_of}
use Rattle.traverse.proofs.open.filtered.Given as goal

abbrev pub invariant-loop-k : goal.invariant-loop-k
invariant-loop-k l = Turns (width_of l.kind) l.store l.tips l.excluded l.sorting (mem l.initial.names l.initial.marks l.initial.times l.initial.line) l.initial.r l.n (mem l.names l.marks l.times l.line) l.r l.k

abbrev pub decreases-loop-k : goal.decreases-loop-k
decreases-loop-k l = l.n - l.k
