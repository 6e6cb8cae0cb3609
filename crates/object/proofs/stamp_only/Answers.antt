-- `object::stamp_only` meets its contract: after the tree line and every parent line the author and committer lines decide.
-- Assumes nothing.
use mathlib.Core.Path.{sym, ◌∙◌, ap}
use Prim.Native.Nat.{ℕ}
use lib.ListN.{drop}
use Rattle.object.specs.Header.{author_line, after_author}
use Rattle.object.specs.Read.{stamp_read, after_parents}
use Rattle.object.proofs.Headers.{tree-good, tree-bad, stamp_none, stamp_after}
use Rattle.hash.specs.Bytes.{width_of}
use borrow.Author.Rules.{rules}
use Rattle.object.proofs.stamp_only.Goals as goal

pub returns-in_err-at : goal.returns-in_err-at
returns-in_err-at c = let x = c.args in
    let w = width_of x.kind in
    let b = x.body.now in
    c.from_residual.ensures ∙ ap stamp_read (sym (stamp_none w b (tree-bad w b (sym c.tree_line.ensures ∙ c.in_err-at.was))))

pub returns : goal.returns
returns c = let x = c.args in
    let w = width_of x.kind in
    let b = x.body.now in
    let t = tree-good w b _ (sym c.tree_line.ensures ∙ c.in_ok-at.was) in
    c.person_lines.ensures
    ∙ ap (λ (k : ℕ). stamp_read (after_author (author_line (drop k b)))) (c.after_parents.ensures ∙ ap (after_parents w b) t.1)
    ∙ ap stamp_read (sym (stamp_after w b t.0))
