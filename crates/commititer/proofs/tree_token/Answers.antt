-- `commititer::tree_token` meets its contract: the tree line is read by crate `object`. Assumes nothing.
use mathlib.Core.Path.{sym, ap, ◌∙◌}
use lib.ListN.{drop}
use Rattle.hash.specs.Bytes.{width_of}
use Rattle.object.specs.Header.{id_line, tree_word}
use Rattle.object.specs.Read.{tree_at}
use Rattle.commititer.specs.Token.{here, token_of, line_in, line_at, token_at}
use Rattle.commititer.specs.declared.State.TheVariants.{Tree}
use Rattle.commititer.proofs.Told.{tree-good, tree-bad}
use borrow.Author.Rules.{rules}
use Rattle.commititer.proofs.tree_token.Goals as goal

pub returns-in-Some : goal.returns-in-Some
unfolding tree_at token_at line_at line_in
returns-in-Some c = let x = c.args in
    let b = x.«data».now in
    sym ((tree-good b (id_line (width_of x.kind) tree_word (drop x.at b)) _ (sym c.tree_line.ensures ∙ c.in-Some.is)).token (here x.at Tree))

pub returns-in-None : goal.returns-in-None
unfolding tree_at token_at line_at line_in
returns-in-None c = let x = c.args in
    let b = x.«data».now in
    c.no_line.ensures
    ∙ sym (ap (token_of b (here x.at Tree)) (tree-bad b (id_line (width_of x.kind) tree_word (drop x.at b)) (sym c.tree_line.ensures ∙ c.in-None.is)))
