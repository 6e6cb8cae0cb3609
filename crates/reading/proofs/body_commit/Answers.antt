-- `reading::body_commit` meets its contract: what the header of the body reads as decides. Assumes nothing.
use Rattle.std.specs.Prelude.{Err}
use Rattle.object.specs.declared.HeaderError.{HeaderError}
use mathlib.Core.Path.{sym, ◌∙◌, ap}
use Rattle.reading.specs.Whole.{body_commit}
use borrow.Author.Rules.{rules}
use Rattle.reading.proofs.body_commit.Goals as goal

pub returns-in-Ok : goal.returns-in-Ok
returns-in-Ok c = let x = c.args in
    ap (body_commit x.start x.end) (sym c.in-Ok.is) ∙ ap (body_commit x.start x.end) c.readable.ensures

pub returns-in-Err-Bad : goal.returns-in-Err-Bad
returns-in-Err-Bad c = let x = c.args in
    ap (λ (e : HeaderError). body_commit x.start x.end (Err e)) (sym c.in-Err-Bad.field-0-is) ∙ ap (body_commit x.start x.end) (sym c.in-Err-Bad.is) ∙ ap (body_commit x.start x.end) c.readable.ensures

pub returns-in-Err-Crowded : goal.returns-in-Err-Crowded
returns-in-Err-Crowded c = let x = c.args in
    ap (λ (e : HeaderError). body_commit x.start x.end (Err e)) (sym c.in-Err-Crowded.field-0-is) ∙ ap (body_commit x.start x.end) (sym c.in-Err-Crowded.is) ∙ ap (body_commit x.start x.end) c.readable.ensures
