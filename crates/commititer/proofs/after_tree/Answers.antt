-- `commititer::after_tree` meets its contract: crate `object` tells where the tree line ends. Assumes nothing.
use mathlib.Core.Path.{sym, ap, ◌∙◌}
use lib.ListN.{drop}
use Rattle.hash.specs.Bytes.{width_of}
use Rattle.object.specs.Header.{id_line, tree_word}
use Rattle.object.specs.Read.{tree_at}
use Rattle.commititer.specs.Token.{place_of, line_in, line_at, after_token}
use Rattle.commititer.proofs.Told.{tree-good, tree-bad}
use borrow.Author.Rules.{rules}
use Rattle.commititer.proofs.after_tree.Reads as reads
use Rattle.commititer.proofs.after_tree.Goals as goal

pub returns-in-Some : goal.returns-in-Some
unfolding tree_at after_token line_at line_in
returns-in-Some c = let x = c.args in
    let b = x.«data».now in
    sym (tree-good b (id_line (width_of x.kind) tree_word (drop x.at b)) _ (sym c.tree_line.ensures ∙ c.in-Some.is)).next

pub returns-in-None : goal.returns-in-None
unfolding tree_at after_token line_at line_in
returns-in-None c = let x = c.args in
    let b = x.«data».now in
    c.no_more.ensures
    ∙ sym (ap (place_of b) (tree-bad b (id_line (width_of x.kind) tree_word (drop x.at b)) (sym c.tree_line.ensures ∙ c.in-None.is)))
