-- `graphwrite::rows::put_tree` meets its contract: the tree line names the tree. Assumes nothing.
use Rattle.std.specs.Prelude.{is_some}
use mathlib.Core.Path.{sym, ◌∙◌, ap}
use mathlib.Core.List.{List}
use Prim.Native.Nat.{ℕ}
use Rattle.hash.specs.Bytes.{width_of, set_down}
use Rattle.hash.proofs.Widths.{width-most}
use Rattle.object.specs.Read.{tree_id_at}
use Rattle.odb.specs.Lookup.{entry_body}
use Rattle.graphplan.proofs.Wides.{tree-read, tree-there}
use Rattle.graphwrite.proofs.rows.put_tree.Goals as goal

pub unwrap-id-requires : goal.unwrap-id-requires
unwrap-id-requires c = let x = c.args in
    let w = width_of x.kind in
    ap is_some (c.tree_id.ensures ∙ ap (λ (y : List ℕ). tree_id_at w y 0) c.entry_bytes.ensures) ∙ tree-there w (entry_body w x.store.now x.k) c.requires

pub returns : goal.returns
returns c = let x = c.args in
    let w = width_of x.kind in
    c.set_down.ensures
    ∙ ap (set_down x.out.now x.at)
    (c.id_slice.ensures
    ∙ tree-read w (entry_body w x.store.now x.k) (width-most x.kind) c.requires
    (sym (ap (λ (y : List ℕ). tree_id_at w y 0) c.entry_bytes.ensures) ∙ sym c.tree_id.ensures ∙ c.unwrap-id.ensures))
