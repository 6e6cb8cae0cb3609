-- `object::person::committer_line` meets its contract: the seconds and the zone are read in the bytes between the word and the newline. Assumes nothing.
use mathlib.Core.Path.{◌≡◌, sym, ap, ◌∙◌}
use native.Mathlib.Omega.{arith}
use lib.ListN.{length, drop}
use Rattle.object.specs.Header.{committer_word, stamped}
use Rattle.actor.specs.Person.{line_seconds, line_zone}
use Rattle.object.specs.Read.{stamp_read}
use Rattle.object.proofs.PersonLines.{Text, text-found, committer_none, committer_text}
use borrow.Author.Rules.{rules}
use Rattle.object.proofs.person.committer_line.Goals as goal

pub overflow_add-at : goal.overflow_add-at
overflow_add-at c =
    let text : Text committer_word c.args.body.now c.args.at c.in_ok-n.n = text-found committer_word c.args.body.now c.args.at c.in_ok-n.n
    (sym c.text_length.ensures ∙ c.in_ok-n.was) in
    omega (arith, text.inside)

pub returns-in_err-n : goal.returns-in_err-n
returns-in_err-n c = let x = c.args in
    c.from_residual.ensures ∙ sym (ap stamp_read (committer_none x.body.now x.at (sym c.text_length.ensures ∙ c.in_err-n.was)))

pub returns : goal.returns
returns c =
    let text : Text committer_word c.args.body.now c.args.at c.in_ok-n.n = text-found committer_word c.args.body.now c.args.at c.in_ok-n.n
    (sym c.text_length.ensures ∙ c.in_ok-n.was) in
    let x = c.args in
    let e = committer_text x.body.now x.at c.in_ok-n.n text in
    c.line_stamp.ensures ∙ ap (λ l. stamp_read (stamped (line_seconds l) (line_zone l))) c.part.ensures ∙ sym (ap stamp_read e)
