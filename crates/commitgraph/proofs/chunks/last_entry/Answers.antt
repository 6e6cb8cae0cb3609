-- `chunks::last_entry` meets its contract: where the place stands past the end of the file the number there is 0. Assumes nothing.
use mathlib.Core.Path.{sym}
use Prim.Native.Nat.{◌+◌}
use native.Mathlib.Omega.{arith}
use Rattle.hash.proofs.Bytes.{u32_at-past}
use borrow.Author.Rules.{rules}
use Rattle.commitgraph.proofs.chunks.last_entry.Goals as goal

pub returns-then-graph-fan : goal.returns-then-graph-fan
returns-then-graph-fan c = let x = c.args in (sym (u32_at-past x.graph.now (x.fan + 1020) (omega arith)), search rules)

pub returns-then-graph-fan-le1020 : goal.returns-then-graph-fan-le1020
returns-then-graph-fan-le1020 c = let x = c.args in (sym (u32_at-past x.graph.now (x.fan + 1020) (omega arith)), search rules)
