-- `commititer::no_line` meets its contract: before the end of a body the line is bad. Assumes nothing.
use mathlib.Core.Path.{sym, ap, ◌∙◌}
use mathlib.Core.Bool.{Bool}
use borrow.Author.Tests.{lt-ltb, le-ltb}
use Rattle.hash.specs.Bytes.{pick}
use Rattle.commititer.specs.declared.Token.TheVariants.{Bad, End}
use borrow.Author.Rules.{rules}
use Rattle.commititer.proofs.no_line.Goals as goal

pub returns-then-at-data : goal.returns-then-at-data
returns-then-at-data c = ap (λ (t : Bool). pick t Bad End) (sym (lt-ltb _ _ c.if-at-data.true))

pub returns-else-at-data : goal.returns-else-at-data
returns-else-at-data c = ap (λ (t : Bool). pick t Bad End) (sym (le-ltb _ _ c.if-at-data.false))
