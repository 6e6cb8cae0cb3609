-- `commititer::parent_token` meets its contract: a parent line is asked before the author line. Assumes nothing.
use mathlib.Core.Path.{sym, ap, ◌∙◌}
use lib.ListN.{drop}
use Rattle.hash.specs.Bytes.{width_of}
use Rattle.object.specs.Header.{id_line, parent_word, author_line}
use Rattle.object.specs.Read.{parent_at}
use Rattle.commititer.specs.Token.{here, author_told, token_of, line_in, line_at, token_at}
use Rattle.commititer.specs.declared.State.TheVariants.{Parents}
use Rattle.commititer.proofs.Told.{parent-there, parent-not}
use borrow.Author.Rules.{rules}
use Rattle.commititer.proofs.parent_token.Goals as goal

pub returns-in-Some : goal.returns-in-Some
unfolding parent_at token_at line_at line_in
returns-in-Some c = let x = c.args in
    let b = x.«data».now in
    parent-there (id_line (width_of x.kind) parent_word (drop x.at b)) (author_told (author_line (drop x.at b))) b (here x.at Parents) (sym c.parent_line.ensures ∙ c.in-Some.is)

pub returns-in-None : goal.returns-in-None
unfolding parent_at token_at line_at line_in
returns-in-None c = let x = c.args in
    let b = x.«data».now in
    c.author_token.ensures
    ∙ sym (ap (token_of b (here x.at Parents)) (parent-not (id_line (width_of x.kind) parent_word (drop x.at b)) (author_told (author_line (drop x.at b))) (sym c.parent_line.ensures ∙ c.in-None.is)))
