-- `stated_level` meets its contract: the number is read from the row, and the quotient by 4 is its high 30 bits. Assumes nothing.
use mathlib.Core.Path.{ap}
use Prim.Native.Nat.{ℕ, ◌/◌}
use native.Mathlib.Omega.{arith}
use Rattle.hash.specs.Bytes.{width_of}
use Rattle.commitgraph.specs.Graph.{row_in, stated_level}
use Rattle.commitgraph.proofs.RowsPlace.{field}
use borrow.Author.Rules.{rules}
use Rattle.commitgraph.proofs.rows.stated_level.Goals as goal

pub returns : goal.returns
unfolding stated_level
returns c = let x = c.args in
    let w = width_of x.kind in
    ap (λ (n : ℕ). n / 4) (field w 8 (row_in w x.graph.now x.l x.p) (omega arith) c.be32.ensures c.numbers.ensures)
