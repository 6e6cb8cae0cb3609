-- `put::byte` meets its contract: it stores the byte, if the place is inside. Assumes nothing.
use mathlib.Core.Path.{refl}
use Rattle.swatch.proofs.Puts.{puts_byte, puts_none}
use borrow.Author.Rules.{rules}
use Rattle.swatch.proofs.put.byte.Goals as goal

pub returns-then-at-out : goal.returns-then-at-out
returns-then-at-out c = puts_byte c.args.out.now c.args.at c.args.b _ (search rules) refl

pub returns : goal.returns
returns c = puts_none c.args.out.now c.args.at c.args.b _ (search rules)
