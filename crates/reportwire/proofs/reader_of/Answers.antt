-- `reader_of` meets its contract: by whether the number is 0. Assumes nothing.
use mathlib.Core.Path.{sym, ap}
use mathlib.Core.Bool.{Bool, cond}
use borrow.Author.Tests.{eq-eqb, ne_eqb}
use Rattle.reports.specs.declared.Reader.TheVariants.{Shop, Outside}
use Rattle.reportwire.proofs.reader_of.Goals as goal

pub returns-then-outside-eq0 : goal.returns-then-outside-eq0
returns-then-outside-eq0 c = ap (λ (b : Bool). cond b Shop Outside) (sym (eq-eqb c.args.outside 0 c.if-outside-eq0.true))

pub returns-else-outside-eq0 : goal.returns-else-outside-eq0
returns-else-outside-eq0 c = ap (λ (b : Bool). cond b Shop Outside) (sym (ne_eqb c.args.outside 0 c.if-outside-eq0.false))
