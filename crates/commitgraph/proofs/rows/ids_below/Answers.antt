-- `ids_below` meets its contract: below the first byte there is none, and else the entry is read at its place. Assumes nothing.
use borrow.Author.Rules.{rules}
use mathlib.Core.Path.{◌∙◌, sym, ap}
use Prim.Native.Nat.{◌+◌, ◌-◌, ◌*◌}
use Rattle.hash.specs.Bytes.{u32_at}
use Rattle.commitgraph.proofs.RowsPlace.{u32_at-cut}
use Rattle.commitgraph.proofs.RowsFind.{below-zero, below-entry}
use Rattle.commitgraph.proofs.rows.ids_below.Goals as goal

pub returns-then-i-eq0 : goal.returns-then-i-eq0
returns-then-i-eq0 c = let x = c.args in
    sym (below-zero x.graph.now x.l x.i c.if-i-eq0.true)

pub returns : goal.returns
returns c = let x = c.args in
    let g = x.graph.now in
    c.wide.ensures.0
    ∙ (c.be32.ensures
    ∙ (ap (u32_at g) c.place.ensures
    ∙ (u32_at-cut g (x.l.fan + 4 * (x.i - 1)) ∙ sym (below-entry g x.l x.i c.if-i-eq0.false))))
