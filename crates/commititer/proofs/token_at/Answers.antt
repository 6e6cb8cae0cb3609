-- `commititer::token_at` meets its contract: the place says which line is asked. Assumes nothing.
use mathlib.Core.Path.{sym, ap, ◌∙◌}
use Rattle.hash.specs.Bytes.{width_of}
use Rattle.commititer.specs.Token.{here, line_in, line_at, token_at}
use Rattle.commititer.specs.declared.State.{State}
use borrow.Author.Rules.{rules}
use Rattle.commititer.proofs.token_at.Goals as goal

pub returns-in-Tree : goal.returns-in-Tree
returns-in-Tree c = let x = c.args in
    c.tree_token.ensures ∙ sym (ap (λ (s : State). token_at (width_of x.kind) x.«data».now (here x.place.at s)) c.in-Tree.is)

pub returns-in-Parents : goal.returns-in-Parents
returns-in-Parents c = let x = c.args in
    c.parent_token.ensures ∙ sym (ap (λ (s : State). token_at (width_of x.kind) x.«data».now (here x.place.at s)) c.in-Parents.is)

pub returns-in-Committer : goal.returns-in-Committer
unfolding token_at line_at line_in
returns-in-Committer c = let x = c.args in
    c.committer_token.ensures ∙ sym (ap (λ (s : State). token_at (width_of x.kind) x.«data».now (here x.place.at s)) c.in-Committer.is)

pub returns-in-Done : goal.returns-in-Done
unfolding token_at line_at line_in
returns-in-Done c = let x = c.args in
    sym (ap (λ (s : State). token_at (width_of x.kind) x.«data».now (here x.place.at s)) c.in-Done.is)
