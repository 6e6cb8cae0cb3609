-- `feed::told_by` meets its contract: the number of bytes is tested first, then the digits are read, then the value is bounded.
-- Assumes nothing.
use mathlib.Core.Path.{sym, ◌∙◌}
use native.Mathlib.Omega.{arith}
use Rattle.feed.specs.Feed.{decimal}
use Rattle.feed.proofs.Numbers.{number-good, number-bad, no-digits, many-digits, some-digits, few-bad, few-good}
use Rattle.feed.proofs.told_by.Goals as goal

pub returns-then-text-eq0 : goal.returns-then-text-eq0
returns-then-text-eq0 c = no-digits c.args.text.now c.if-text-eq0.true

pub returns-then-text-gt-MOST_DIGITS : goal.returns-then-text-gt-MOST_DIGITS
returns-then-text-gt-MOST_DIGITS c = many-digits c.args.text.now c.if-text-gt-MOST_DIGITS.true

pub returns-in-None : goal.returns-in-None
returns-in-None c = let t = c.args.text.now in
    few-bad t (some-digits t c.if-text-eq0.false) (omega (arith, c.if-text-gt-MOST_DIGITS.false)) (number-bad (decimal 0 t) (sym c.digits_value.ensures ∙ c.in-None.is))

pub returns-in-Some : goal.returns-in-Some
returns-in-Some c = let t = c.args.text.now in
    let v = c.in-Some.value in
    c.bounded.ensures
    ∙ few-good t v (some-digits t c.if-text-eq0.false) (omega (arith, c.if-text-gt-MOST_DIGITS.false)) (number-good (decimal 0 t) v (sym c.digits_value.ensures ∙ c.in-Some.is))
