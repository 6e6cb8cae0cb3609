-- `commititer::is_tree` meets its contract: the token is a tree just where crate `object` finds a tree line. Assumes nothing.
use mathlib.Core.Path.{◌∙◌}
use Rattle.hash.specs.Bytes.{width_of}
use Rattle.commititer.proofs.ByHeader.{tree-here}
use Rattle.commititer.proofs.is_tree.Goals as goal

pub returns : goal.returns
returns c = c.is_some.ensures ∙ tree-here (width_of c.args.kind) c.args.«data».now _ c.tree_line.ensures
