-- `parents::body_parents` meets its contract: the parent lines are counted after the tree line. Assumes nothing.
use mathlib.Core.Path.{◌∙◌, ap}
use Prim.Native.Nat.{ℕ}
use lib.ListN.{length, drop}
use Rattle.hash.specs.Bytes.{width_of}
use Rattle.object.specs.Header.{parent_lines, most}
use Rattle.reading.specs.declared.Commit.TheVariants.{Body}
use Rattle.frontier.proofs.parents.body_parents.Goals as goal

pub returns : goal.returns
returns c = let x = c.args in
    let n = c.count_parents.ensures ∙ ap (λ (i : ℕ). length (parent_lines (width_of x.kind) most (drop i x.body.now)).ids) c.tree_size.ensures.0 in
    λ i. Body x.start x.end (n i) (c.no_pair.ensures i)
