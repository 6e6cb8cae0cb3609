-- `object::is_id_line` meets its contract: with a byte too few, no newline or another word there is no line; else the digits decide.
-- Assumes nothing.
use mathlib.Core.Path.{sym, ◌∙◌, ap}
use native.Mathlib.Omega.{arith}
use borrow.Author.Tests.{not-true, not-false}
use Rattle.object.specs.Header.{is_some}
use Rattle.object.proofs.Lines.{no_word, too_short, no-newline, digits-test}
use Rattle.hash.specs.Bytes.{width_of}
use borrow.Author.Rules.{rules}
use Rattle.object.proofs.is_id_line.Goals as goal

pub returns-then-body-at : goal.returns-then-body-at
returns-then-body-at c = let x = c.args in sym (ap is_some (too_short (width_of x.kind) x.word.now x.body.now x.at (omega arith)))

pub returns-then-body-at-2 : goal.returns-then-body-at-2
returns-then-body-at-2 c = let x = c.args in sym (ap is_some (too_short (width_of x.kind) x.word.now x.body.now x.at (omega arith)))

pub returns-then-body-digits : goal.returns-then-body-digits
returns-then-body-digits c = let x = c.args in sym (ap is_some (too_short (width_of x.kind) x.word.now x.body.now x.at (omega arith)))

pub returns-then-body-digits-ne10 : goal.returns-then-body-digits-ne10
returns-then-body-digits-ne10 c = let x = c.args in sym (ap is_some (no-newline (width_of x.kind) x.word.now x.body.now x.at (rw c.width-n.ensures.0 at c.if-body-digits-ne10.true)))

pub returns-then-not-starts_with : goal.returns-then-not-starts_with
returns-then-not-starts_with c = let x = c.args in sym (ap is_some (no_word (width_of x.kind) x.word.now x.body.now x.at (sym c.starts_with.ensures ∙ c.if-not-starts_with.true)))

pub returns : goal.returns
returns c = let x = c.args in c.wrong_digits.ensures ∙ sym (digits-test (width_of x.kind) x.word.now x.body.now x.at (sym c.starts_with.ensures ∙ c.if-not-starts_with.false) (omega arith) (rw c.width-n.ensures.0 at c.if-body-digits-ne10.false))
