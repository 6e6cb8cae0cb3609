-- `ahead::kept_beside` meets its contract: by its test. Assumes nothing.
use mathlib.Core.Path.{sym, ap}
use mathlib.Core.Bool.{Bool, cond}
use borrow.Author.Tests.{eq-eqb, ne_eqb}
use Rattle.tested.proofs.ahead.kept_beside.Goals as goal

pub returns-then-words-eq1 : goal.returns-then-words-eq1
returns-then-words-eq1 c = let x = c.args in sym (ap (λ (t : Bool). cond t 0 x.position) (eq-eqb x.words 1 c.if-words-eq1.true))

pub returns : goal.returns
returns c = let x = c.args in sym (ap (λ (t : Bool). cond t 0 x.position) (ne_eqb x.words 1 c.if-words-eq1.false))
