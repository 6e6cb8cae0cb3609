-- `commititer::put_parent` meets its contract: the id that crate `object` sets down is the token's. Assumes nothing.
use mathlib.Core.Path.{sym, ◌∙◌}
use Rattle.hash.specs.Bytes.{width_of}
use Rattle.hash.proofs.Widths.{width-most}
use Rattle.commititer.proofs.ByHeader.{here-parent, parent-down}
use borrow.Author.Rules.{rules}
use Rattle.commititer.proofs.put_parent.Goals as goal

pub returns : goal.returns
returns c = let w = width_of c.args.kind in (c.put_parent.ensures.0 ∙ sym (here-parent w c.args.«data».now c.args.at), c.put_parent.ensures.1 ∙ parent-down w c.args.«data».now c.args.at c.args.k c.args.out.now (width-most c.args.kind))
