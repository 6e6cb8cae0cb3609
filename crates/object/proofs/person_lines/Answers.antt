-- `object::person_lines` meets its contract: a good author line tells where the committer line stands. Assumes nothing.
use Rattle.std.specs.Prelude.{Option}
use mathlib.Core.Path.{sym, ◌∙◌, ap}
use mathlib.Core.List.{List}
use Prim.Native.Nat.{ℕ}
use Rattle.object.specs.Header.{after_author}
use Rattle.object.specs.Read.{stamp_read}
use Rattle.object.proofs.PersonLines.{author-next, author-bad}
use borrow.Author.Rules.{rules}
use Rattle.object.proofs.person_lines.Goals as goal

pub returns : goal.returns
returns c = let x = c.args in
    let n = author-next x.body.now x.at _ (sym c.author_line.ensures ∙ c.in_ok-next.was) in
    c.committer_line.ensures ∙ ap (λ (o : Option (List ℕ)). stamp_read (after_author o)) (sym n.rest)

pub returns-in_err-next : goal.returns-in_err-next
returns-in_err-next c = let x = c.args in
    let n = author-bad x.body.now x.at (sym c.author_line.ensures ∙ c.in_err-next.was) in
    c.from_residual.ensures ∙ ap (λ (o : Option (List ℕ)). stamp_read (after_author o)) (sym n)
