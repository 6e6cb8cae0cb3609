-- `lookup_near` meets its contract: a position below N that has the id is the one that a lookup finds, since in a right file no id stands
-- twice. Assumes nothing.
use mathlib.Core.Path.{sym, ◌∙◌}
use native.Mathlib.Omega.{arith}
use Rattle.hash.proofs.Ids.{eq_id_eq}
use Rattle.hash.proofs.Tests.{and_both}
use Rattle.hash.proofs.Widths.{width_least}
use borrow.Author.Tests.{eqb-true}
use Rattle.commitgraph.proofs.RowsFind.{looks_at}
use borrow.Author.Rules.{rules}
use Rattle.commitgraph.proofs.rows.lookup_near.Goals as goal

pub returns-then-same_id : goal.returns-then-same_id
returns-then-same_id c =
    let x = c.args in
    let same = and_both (sym c.same_id.ensures ∙ c.if-same_id.true) in
    looks_at _ _ _ _ x.near (omega (arith, width_least x.kind)) (eqb-true _ _ same.0) c.if-near-l.true (sym c.id_at.ensures ∙ eq_id_eq _ _ same.1)
