-- `commititer::committer_token` meets its contract: the committer line is read by crate `object`. Assumes nothing.
use mathlib.Core.Path.{sym, ap, ◌∙◌}
use lib.ListN.{drop}
use Rattle.object.specs.Header.{committer_line}
use Rattle.commititer.specs.Token.{here, token_of}
use Rattle.commititer.specs.declared.State.TheVariants.{Committer}
use Rattle.commititer.proofs.Told.{committer_good, committer_bad}
use borrow.Author.Rules.{rules}
use Rattle.commititer.proofs.committer_token.Goals as goal

pub returns-in-Some : goal.returns-in-Some
returns-in-Some c = let x = c.args in
    let b = x.«data».now in
    sym (ap (token_of b (here x.at Committer)) (committer_good (committer_line (drop x.at b)) _ (sym c.committer_line.ensures ∙ c.in-Some.is)))

pub returns-in-None : goal.returns-in-None
returns-in-None c = let x = c.args in
    let b = x.«data».now in
    c.no_line.ensures
    ∙ sym (ap (token_of b (here x.at Committer)) (committer_bad (committer_line (drop x.at b)) (sym c.committer_line.ensures ∙ c.in-None.is)))
