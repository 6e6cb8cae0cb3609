-- `rowvisit::numbers::is_plain` meets its contract: where no parents were told, both numbers are tested. Assumes nothing.
use mathlib.Core.Path.{refl}
use borrow.Author.Tests.{eqb-true}
use Rattle.hash.proofs.Tests.{clash}
use Rattle.rowvisit.proofs.numbers.is_plain.Goals as goal

pub returns-then-first-ne-NONE : goal.returns-then-first-ne-NONE
returns-then-first-ne-NONE c = λ e. clash e refl

pub returns : goal.returns
returns c = λ e z. (c.if-first-ne-NONE.false, eqb-true _ _ e)
