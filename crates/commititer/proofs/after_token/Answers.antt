-- `commititer::after_token` meets its contract: the place says which line is asked, and nothing is read after the committer line, be it good or
-- bad. Assumes nothing.
use mathlib.Core.Logic.{⊎_elim}
use mathlib.Core.Path.{◌≡◌, sym, ap, ◌∙◌}
use Rattle.hash.specs.Bytes.{width_of}
use lib.ListN.{drop}
use Rattle.object.specs.Header.{committer_line}
use Rattle.commititer.specs.Token.{here, line_in, line_at, after_token}
use Rattle.commititer.proofs.Told.{committer_last}
use Rattle.commititer.specs.declared.Place.{Place}
use Rattle.commititer.specs.declared.State.{State}
use Rattle.commititer.specs.declared.State.TheVariants.{Committer, Done}
use borrow.Author.Rules.{rules}
use Rattle.commititer.proofs.after_token.Goals as goal

pub returns-in-Tree : goal.returns-in-Tree
returns-in-Tree c = let x = c.args in
    c.after_tree.ensures ∙ sym (ap (λ (s : State). after_token (width_of x.kind) x.«data».now (here x.place.at s)) c.in-Tree.is)

pub returns-in-Parents : goal.returns-in-Parents
returns-in-Parents c = let x = c.args in
    c.after_parent.ensures ∙ sym (ap (λ (s : State). after_token (width_of x.kind) x.«data».now (here x.place.at s)) c.in-Parents.is)

pub returns-in-Committer : goal.returns-in-Committer
unfolding after_token line_at line_in
returns-in-Committer c = let x = c.args in
    let at : State → Place = λ s. after_token (width_of x.kind) x.«data».now (here x.place.at s) in
    c.no_more.ensures
    ∙ ⊎_elim (λ (e : x.place.state ≡ Committer). sym (committer_last x.«data».now (committer_line (drop x.place.at x.«data».now))) ∙ sym (ap at e)) (λ (e : x.place.state ≡ Done). sym (ap at e)) c.in-Committer.is
