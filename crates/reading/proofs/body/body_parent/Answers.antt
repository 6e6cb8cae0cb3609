-- `reading::body_parent` meets its contract: the token at the place of parent line k has its id. Assumes nothing.
use mathlib.Core.Path.{refl}
use native.Mathlib.Omega.{arith}
use Rattle.hash.specs.Bytes.{width_of}
use Rattle.hash.proofs.Widths.{width-most}
use Rattle.reading.proofs.Lines.{id-there, id_gone, id_far}
use borrow.Author.Rules.{rules}
use Rattle.commititer.proofs.ByHeader.{not-parent}
use Rattle.reading.proofs.body.body_parent.Goals as goal

pub returns-then-k-ge-MOST_PARENTS : goal.returns-then-k-ge-MOST_PARENTS
returns-then-k-ge-MOST_PARENTS c = id_far _ _ _ c.if-k-ge-MOST_PARENTS.true refl

pub returns-in-Parent : goal.returns-in-Parent
returns-in-Parent c = let x = c.args in
    id-there (width_of x.kind) (width-most x.kind) x.body.now x.k (omega arith) c.token_after.ensures c.in-Parent.is

pub returns-in_default : goal.returns-in_default
returns-in_default c = let x = c.args in
    id_gone (width_of x.kind) (width-most x.kind) x.body.now x.k (omega arith) c.token_after.ensures (not-parent _ c.in_default.not-Parent) refl
