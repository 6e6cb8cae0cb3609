-- `rowvisit::row::set_parent` meets its contract: the id is set down at its place, or nothing is changed. Assumes nothing.
use mathlib.Core.Logic.{⊎_elim}
use native.Mathlib.Omega.{arith}
use Rattle.rowvisit.proofs.Rows.{parent_set, parent-left}
use Rattle.rowvisit.proofs.row.set_parent.Goals as goal

pub returns-then-id-width : goal.returns-then-id-width
returns-then-id-width c = parent_set (omega (arith, c.if-id-width.true, c.width.ensures.0)) c.set_nth.ensures

pub returns-else-k-lt-MOST_PARENTS : goal.returns-else-k-lt-MOST_PARENTS
returns-else-k-lt-MOST_PARENTS c = parent-left (λ i n. ⊎_elim (λ w. omega (arith, n, w.width.ensures.0, w.if-id-width.false)) (λ w. omega (arith, i, w.if-k-lt-MOST_PARENTS.false)) c.else-k-lt-MOST_PARENTS.branch-raw)
