-- `graphplan::entry::count_of` meets its contract: the parent lines stand behind the tree line. Assumes nothing.
use mathlib.Core.Path.{◌∙◌, ap}
use mathlib.Core.List.{List}
use Prim.Native.Nat.{ℕ}
use lib.ListN.{length, drop}
use Rattle.hash.specs.Bytes.{width_of}
use Rattle.object.specs.Header.{parent_lines, most}
use Rattle.odb.specs.Lookup.{entry_body}
use Rattle.levels.specs.StoreGraph.{lines_in}
use Rattle.graphplan.proofs.entry.count_of.Goals as goal

pub returns : goal.returns
unfolding lines_in
returns c = let x = c.args in
    let w = width_of x.kind in
    c.count_parents.ensures
    ∙ ap (λ (y : List ℕ). length (parent_lines w most (drop c.tree_size.result y)).ids) c.entry_bytes.ensures
    ∙ ap (λ (i : ℕ). length (parent_lines w most (drop i (entry_body w x.store.now x.k))).ids) c.tree_size.ensures.0
