-- `seconds` meets its contract: both numbers are read from the row, and 34 bits fit a signed number without its sign. Assumes nothing.
use mathlib.Core.Path.{◌∙◌, ap}
use Prim.Native.Nat.{◌+◌, ◌*◌}
use native.Mathlib.Omega.{arith}
use lib.IntN.{pos}
use mir.Syntax.{w64}
use mir.Facts.{to_z_pos}
use Rattle.hash.specs.Bytes.{width_of}
use Rattle.commitgraph.specs.Graph.{row_in, seconds_in}
use Rattle.commitgraph.proofs.RowsPlace.{field}
use borrow.Author.Rules.{rules}
use Rattle.commitgraph.proofs.rows.seconds.Goals as goal

pub returns : goal.returns
unfolding seconds_in
returns c =
    let x = c.args in
    let w = width_of x.kind in
    let row = row_in w x.graph.now x.l x.p in
    let high = field w 8 row (omega arith) c.be32.ensures c.numbers-part.ensures in
    let low = field w 12 row (omega arith) c.be32-2.ensures c.numbers-part.ensures in
    to_z_pos w64 {n = c.wide-high.result * 4294967296 + c.wide-low.result} (search rules) ∙ ap pos (omega (arith, high, low))
