-- `graphwrite::front_length` meets its contract: the test is the definition's own. Assumes nothing.
use mathlib.Core.Path.{sym, ap}
use mathlib.Core.Bool.{Bool, cond}
use native.Mathlib.Omega.{arith}
use borrow.Author.Tests.{eq-eqb, ne_eqb}
use Rattle.graphwrite.proofs.front_length.Goals as goal

pub returns-then-e-eq0 : goal.returns-then-e-eq0
returns-then-e-eq0 c = let x = c.args in (sym (ap (λ (t : Bool). cond t 56 68) (eq-eqb x.e 0 c.if-e-eq0.true)), omega arith)

pub returns-else-e-eq0 : goal.returns-else-e-eq0
returns-else-e-eq0 c = let x = c.args in (sym (ap (λ (t : Bool). cond t 56 68) (ne_eqb x.e 0 c.if-e-eq0.false)), omega arith)
