-- `commititer::after_author` meets its contract: crate `object` tells where the author line ends. Assumes nothing.
use mathlib.Core.Path.{sym, ap, ◌∙◌}
use lib.ListN.{drop}
use Rattle.object.specs.Header.{author_line}
use Rattle.commititer.specs.Token.{place_of}
use Rattle.commititer.proofs.Told.{author-good, author-bad}
use borrow.Author.Rules.{rules}
use Rattle.commititer.proofs.after_author.Reads as reads
use Rattle.commititer.proofs.after_author.Goals as goal

pub returns-in-Some : goal.returns-in-Some
returns-in-Some c = let x = c.args in
    let b = x.«data».now in
    sym (author-good b (author_line (drop x.at b)) _ (sym c.author_line.ensures ∙ c.in-Some.is)).next

pub returns-in-None : goal.returns-in-None
returns-in-None c = let x = c.args in
    let b = x.«data».now in
    c.no_more.ensures
    ∙ sym (ap (place_of b) (author-bad b (author_line (drop x.at b)) (sym c.author_line.ensures ∙ c.in-None.is)))
