-- `object::person::text_length` meets its contract: after the word, the newline's place is the number of bytes before it. Assumes nothing.
use mathlib.Core.Path.{◌≡◌, sym, ap, ◌∙◌}
use mathlib.Core.Bool.{true}
use Prim.Native.Nat.{◌+◌}
use native.Mathlib.Omega.{arith}
use lib.ListN.{length, drop}
use borrow.Author.Tests.{not-true, not-false}
use Rattle.object.specs.Header.{is_some, strip}
use Rattle.actor.specs.Person.{first_of}
use Rattle.object.specs.Read.{text_length}
use Rattle.object.proofs.PersonLines.{no_word, word_fits, after-word, text-place}
use borrow.Author.Rules.{rules}
use Rattle.object.proofs.person.text_length.Goals as goal

pub returns-then-not-starts_with : goal.returns-then-not-starts_with
returns-then-not-starts_with c = let x = c.args in
    let e = sym c.starts_with.ensures ∙ c.if-not-starts_with.true in
    sym (ap text_length (no_word x.word.now x.body.now x.at e))

pub overflow_add-at : goal.overflow_add-at
overflow_add-at c =
    let stands : is_some (strip c.args.word.now (drop c.args.at c.args.body.now)) ≡ true = sym c.starts_with.ensures ∙ c.if-not-starts_with.false in
    let x = c.args in
    omega (arith, word_fits x.word.now x.body.now x.at stands)

pub returns : goal.returns
returns c =
    let stands : is_some (strip c.args.word.now (drop c.args.at c.args.body.now)) ≡ true = sym c.starts_with.ensures ∙ c.if-not-starts_with.false in
    let x = c.args in
    let e = after-word x.word.now x.body.now x.at stands in
    c.first_of.ensures
    ∙ ap (first_of 10) c.tail.ensures
    ∙ sym (ap text_length e ∙ text-place (drop (x.at + length x.word.now) x.body.now))
