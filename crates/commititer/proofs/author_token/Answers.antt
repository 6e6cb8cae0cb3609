-- `commititer::author_token` meets its contract: the author line is read by crate `object`. Assumes nothing.
use mathlib.Core.Path.{sym, ap, ◌∙◌}
use lib.ListN.{drop}
use Rattle.object.specs.Header.{author_line}
use Rattle.commititer.specs.Token.{here, token_of}
use Rattle.commititer.specs.declared.State.TheVariants.{Parents}
use Rattle.commititer.proofs.Told.{author-good, author-bad}
use borrow.Author.Rules.{rules}
use Rattle.commititer.proofs.author_token.Goals as goal

pub returns-in-Some : goal.returns-in-Some
returns-in-Some c = let x = c.args in
    let b = x.«data».now in
    sym ((author-good b (author_line (drop x.at b)) _ (sym c.author_line.ensures ∙ c.in-Some.is)).token (here x.at Parents))

pub returns-in-None : goal.returns-in-None
returns-in-None c = let x = c.args in
    let b = x.«data».now in
    c.no_line.ensures
    ∙ sym (ap (token_of b (here x.at Parents)) (author-bad b (author_line (drop x.at b)) (sym c.author_line.ensures ∙ c.in-None.is)))
