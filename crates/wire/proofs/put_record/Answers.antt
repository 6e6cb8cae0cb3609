-- `wire::put_record` meets its contract: at 12 nothing is stored. Assumes nothing.
use mathlib.Core.Path.{sym, ◌∙◌, subst}
use lib.Dec.{T}
use borrow.Author.Tests.{eq-eqb, ne_eqb}
use borrow.Author.Rules.{rules}
use Rattle.wire.proofs.put_record.Goals as goal

pub returns-then-n-ne-CLOSED : goal.returns-then-n-ne-CLOSED
returns-then-n-ne-CLOSED c =
    let z = ne_eqb c.args.n 12 c.if-n-ne-CLOSED.true in
    record { is = rw z c.encode.ensures.is; back = λ g h. c.encode.ensures.back h }

pub returns-else-n-ne-CLOSED : goal.returns-else-n-ne-CLOSED
returns-else-n-ne-CLOSED c = let z = eq-eqb c.args.n 12 c.if-n-ne-CLOSED.false in
    record { is = rw z; back = λ g h. absurd (subst T (sym z ∙ g) tt) }
