-- `graphwrite::rows::put_row` meets its contract: the tree, the two parents, the level and the seconds stand one after another. Assumes nothing.
use mathlib.Core.Path.{sym, ◌∙◌, ap}
use Prim.Native.Nat.{◌+◌, ◌≤◌}
use native.Mathlib.Omega.{arith}
use lib.ListN.{length}
use Rattle.hash.specs.Bytes.{width_of}
use borrow.Author.Rules.{rules}
use Rattle.graphplan.specs.StoreRows.{row_of}
use Rattle.odb.specs.Lookup.{entry_body}
use Rattle.graphplan.specs.Entries.{edges_count}
use Rattle.graphplan.proofs.Heads.{HeadTold, head-told, head-some}
use Rattle.graphplan.proofs.RowLaws.{entry-edges}
use Rattle.graphplan.proofs.Wides.{row-tree-long, readable-at}
use Rattle.graphplan.proofs.StoreLinks.{parents-count}
use Rattle.graphbytes.proofs.Lists.{row_laid}
use Rattle.graphwrite.proofs.rows.put_row.Goals.{In-Some}
use Rattle.graphwrite.proofs.rows.put_row.Goals as goal

told : (c : In-Some) → HeadTold (width_of c.args.kind) (entry_body (width_of c.args.kind) c.args.store.now c.args.k) c.in-Some.head
told c = head-told _ _ _ (sym c.head_of.ensures ∙ c.in-Some.is)

pub put_tree-requires : goal.put_tree-requires
put_tree-requires c = (told (goal.at.put_tree-requires c).In-Some).tree

pub first_of-a-requires : goal.first_of-a-requires
first_of-a-requires c = let x = c.args in (c.requires.0, c.requires.2, (told (goal.at.first_of-a-requires c).In-Some).count ∙ sym (parents-count (width_of x.kind) x.store.now x.k))

pub second_of-b-requires : goal.second_of-b-requires
second_of-b-requires c = let x = c.args in (c.requires.0, c.requires.2, (told (goal.at.second_of-b-requires c).In-Some).count ∙ sym (parents-count (width_of x.kind) x.store.now x.k), c.requires.3)

pub overflow_add-at : goal.overflow_add-at
overflow_add-at c = let f : c.args.at + c.width.result ≤ length c.args.out.now = omega (arith, c.width.ensures.0, c.requires.4) in
    search rules

pub returns : goal.returns
unfolding row_of
returns c = let x = c.args in
    let w = width_of x.kind in
    let h = told (goal.at.returns c).In-Some in (
      row_laid x.out.now w c.width.result x.at x.e c.first_of-a.result c.second_of-b.result c.level_at-l.result c.in-Some.head.seconds (row_of w x.store.now x.k) (row-tree-long w x.store.now x.n c.requires.0 x.k c.requires.2) c.requires.4 c.put_tree.ensures c.put_four.ensures c.width.ensures.0 c.first_of-a.ensures c.second_of-b.ensures (omega (arith, c.level_at-l.ensures.0, c.requires.1.level x.k c.requires.2)) h.seconds,
      c.edges_of.ensures ∙ ap edges_count h.count ∙ sym (entry-edges w x.store.now x.k),
    )

pub returns-in_default : goal.returns-in_default
returns-in_default c = let x = c.args in
    absurd (head-some (width_of x.kind) (entry_body (width_of x.kind) x.store.now x.k) (readable-at (width_of x.kind) x.store.now x.n c.requires.0 x.k c.requires.2) (sym c.head_of.ensures ∙ c.in_default.is))
