-- `graphwrite::rows::first_of` meets its contract: the number of parents decides. Assumes nothing.
use mathlib.Core.Path.{sym, ◌∙◌}
use Prim.Native.Nat.{◌<◌}
use native.Mathlib.Omega.{arith}
use lib.ListN.{length}
use Rattle.hash.specs.Bytes.{width_of}
use Rattle.graphplan.specs.StoreRows.{row_of}
use Rattle.graphplan.proofs.StoreLinks.{number_read}
use Rattle.graphbytes.proofs.Lists.{first-none, first_some}
use Rattle.graphwrite.proofs.rows.first_of.Goals as goal

pub returns-then-c-eq0 : goal.returns-then-c-eq0
returns-then-c-eq0 c = let x = c.args in first-none (row_of (width_of x.kind) x.store.now x.k).parents (sym c.requires.2 ∙ c.if-c-eq0.true)

pub returns : goal.returns
returns c = let x = c.args in
    let ps = (row_of (width_of x.kind) x.store.now x.k).parents in
    let z : 0 < length ps = omega (arith, c.requires.2, c.if-c-eq0.false) in
    number_read (width_of x.kind) x.store.now x.n x.k c.requires.0 c.requires.1 0 c.parent_at.result z c.parent_at.ensures ∙ first_some ps z
