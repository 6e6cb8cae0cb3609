-- `graphwrite::rows::second_of` meets its contract: the number of parents decides. Assumes nothing.
use mathlib.Core.Path.{sym, ◌∙◌}
use native.Mathlib.Omega.{arith}
use Rattle.hash.specs.Bytes.{width_of}
use Rattle.graphplan.specs.StoreRows.{row_of}
use Rattle.graphplan.proofs.StoreLinks.{number_read}
use Rattle.graphbytes.proofs.Lists.{second_none, second-one, second-list}
use Rattle.graphwrite.proofs.rows.second_of.Goals as goal

pub returns-then-c-lt2 : goal.returns-then-c-lt2
returns-then-c-lt2 c = let x = c.args in second_none x.e (row_of (width_of x.kind) x.store.now x.k).parents (omega (arith, c.requires.2, c.if-c-lt2.true))

pub returns-then-c-eq2 : goal.returns-then-c-eq2
returns-then-c-eq2 c = let x = c.args in
    let ps = (row_of (width_of x.kind) x.store.now x.k).parents in
    number_read (width_of x.kind) x.store.now x.n x.k c.requires.0 c.requires.1 1 c.parent_at.result (omega (arith, c.requires.2, c.if-c-eq2.true)) c.parent_at.ensures ∙ second-one x.e ps (sym c.requires.2 ∙ c.if-c-eq2.true)

pub returns : goal.returns
returns c = let x = c.args in second-list x.e (row_of (width_of x.kind) x.store.now x.k).parents (omega (arith, c.requires.2, c.if-c-eq2.false, c.if-c-lt2.false))
