-- `object::person::author_line` meets its contract: the bytes between the word and the newline are judged, and the next line stands after the newline.
-- Assumes nothing.
use Rattle.std.specs.Prelude.{None, Some}
use mathlib.Core.Path.{◌≡◌, sym, ap, ◌∙◌}
use mathlib.Core.Bool.{Bool, cond}
use Prim.Native.Nat.{◌+◌}
use native.Mathlib.Omega.{arith}
use lib.ListN.{length, drop}
use Rattle.hash.specs.Bytes.{at}
use Rattle.object.specs.Header.{word_line, author_word, author_line}
use Rattle.actor.specs.Person.{has_email}
use Rattle.object.specs.Read.{text_length}
use Rattle.object.specs.Read.{line_read}
use Rattle.object.proofs.PersonLines.{Text, text-found, author-none, author-text, line-place}
use borrow.Author.Rules.{rules}
use Rattle.object.proofs.person.author_line.Goals as goal

pub overflow_add-at : goal.overflow_add-at
overflow_add-at c =
    let text : Text author_word c.args.body.now c.args.at c.in_ok-n.n = text-found author_word c.args.body.now c.args.at c.in_ok-n.n
    (sym c.text_length.ensures ∙ c.in_ok-n.was) in
    omega (arith, text.inside)

pub overflow_add-result : goal.overflow_add-result
overflow_add-result c =
    let text : Text author_word c.args.body.now c.args.at c.in_ok-n.n = text-found author_word c.args.body.now c.args.at c.in_ok-n.n
    (sym c.text_length.ensures ∙ c.in_ok-n.was) in
    omega (arith, text.inside)

pub overflow_add-result-then-has_email : goal.overflow_add-result-then-has_email
overflow_add-result-then-has_email c =
    let text : Text author_word c.args.body.now c.args.at c.in_ok-n.n = text-found author_word c.args.body.now c.args.at c.in_ok-n.n
    (sym c.text_length.ensures ∙ c.in_ok-n.was) in
    omega (arith, text.inside)

pub returns-in_err-n : goal.returns-in_err-n
returns-in_err-n c = let x = c.args in
    c.from_residual.ensures ∙ sym (ap (line_read x.body.now) (author-none x.body.now x.at (sym c.text_length.ensures ∙ c.in_err-n.was)))

pub returns-then-has_email : goal.returns-then-has_email
returns-then-has_email c =
    let text : Text author_word c.args.body.now c.args.at c.in_ok-n.n = text-found author_word c.args.body.now c.args.at c.in_ok-n.n
    (sym c.text_length.ensures ∙ c.in_ok-n.was) in
    let judged : line_read c.args.body.now (author_line (drop c.args.at c.args.body.now))
    ≡ line_read c.args.body.now (cond c.has_email.result (Some (drop (c.args.at + 8 + c.in_ok-n.n) c.args.body.now)) None) = let x = c.args in
    let n = c.in_ok-n.n in
    let e : has_email (at x.body.now (x.at + 7) n) ≡ c.has_email.result = sym (c.has_email.ensures ∙ ap has_email c.part.ensures) in
    ap (line_read x.body.now) (author-text x.body.now x.at n text ∙ ap (λ (y : Bool). cond y (Some (drop (x.at + 8 + n) x.body.now)) None) e) in
    let x = c.args in
    let n = c.in_ok-n.n in
    let h = text.inside in
    let e = line-place x.body.now (x.at + 8 + n) (omega arith) in
    sym (judged ∙ ap (λ (y : Bool). line_read x.body.now (cond y (Some (drop (x.at + 8 + n) x.body.now)) None)) c.if-has_email.true ∙ e)

pub returns-else-has_email : goal.returns-else-has_email
returns-else-has_email c =
    let text : Text author_word c.args.body.now c.args.at c.in_ok-n.n = text-found author_word c.args.body.now c.args.at c.in_ok-n.n
    (sym c.text_length.ensures ∙ c.in_ok-n.was) in
    let judged : line_read c.args.body.now (author_line (drop c.args.at c.args.body.now))
    ≡ line_read c.args.body.now (cond c.has_email.result (Some (drop (c.args.at + 8 + c.in_ok-n.n) c.args.body.now)) None) = let x = c.args in
    let n = c.in_ok-n.n in
    let e : has_email (at x.body.now (x.at + 7) n) ≡ c.has_email.result = sym (c.has_email.ensures ∙ ap has_email c.part.ensures) in
    ap (line_read x.body.now) (author-text x.body.now x.at n text ∙ ap (λ (y : Bool). cond y (Some (drop (x.at + 8 + n) x.body.now)) None) e) in
    let x = c.args in
    let n = c.in_ok-n.n in
    sym (judged ∙ ap (λ (y : Bool). line_read x.body.now (cond y (Some (drop (x.at + 8 + n) x.body.now)) None)) c.if-has_email.false)
