-- `odb::body_start` meets its contract. The first body starts at 0, another where the one before it ends. Assumes nothing.
use mathlib.Core.Path.{sym, ◌∙◌}
use Rattle.odb.specs.Store.{entry_size, body_start}
use Rattle.odb.proofs.Store.{start-next}
use native.Mathlib.Omega.{arith}
use Rattle.hash.proofs.Widths.{one-before}
use borrow.Author.Rules.{rules}
use Rattle.odb.proofs.body_start.Goals as goal

pub returns-then-k-eq0 : goal.returns-then-k-eq0
unfolding body_start
returns-then-k-eq0 c = rw c.if-k-eq0.true

pub body_end-requires : goal.body_end-requires
body_end-requires c = (c.requires.0, omega (arith, (one-before (entry_size c.args.w) c.args.k c.if-k-eq0.false)))

pub returns : goal.returns
returns c = c.body_end.ensures ∙ sym (start-next _ _ _ c.if-k-eq0.false)
