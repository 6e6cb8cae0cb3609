-- `actor::digits_value` meets its contract: a digit moves the value on. Assumes nothing.
use Rattle.std.proofs.Common.{◌≡◌, ◌+◌, ◌-◌, ◌*◌, ◌^◌, ◌<◌, ℕ, sym, ap, ◌∙◌, true, arith, drop, get_or}
use native.Mathlib.Numerals.{add-one}
use Rattle.actor.specs.Person.{digit, digits}
use Rattle.actor.proofs.Numbers.{at_digit, ten_more, ten_most}
use Rattle.actor.proofs.digits_value.Goals as goal

pub loop-i-preserved : goal.loop-i-preserved
loop-i-preserved c =
    let l = c.loop-i in
    let b = c.args.b.now in
    let told : digit (get_or b l.i 0) ≡ true = sym c.is_digit.ensures ∙ c.if-not-is_digit.false in
    let d = c.digit_value.ensures in
    let m : l.value * 10 + c.digit_value.result < 10 ^ (l.i + 1) = rw add-one (ten_more l.i l.value c.digit_value.result l.invariant.1 d.1) in
    let s = at_digit (18 - l.i) l.value l.i b (omega arith) c.if-x-eq32.false told (omega arith) in
    let n : 18 - l.i - 1 ≡ 18 - (l.i + 1) = omega arith in
    (omega arith, m, l.invariant.2 ∙ s ∙ rw (n, d.0))

pub overflow_mul-value : goal.overflow_mul-value
overflow_mul-value c = let l = c.loop-i in omega (arith, ten_most l.i 17 l.value l.invariant.1 (omega arith))

pub overflow_add-value : goal.overflow_add-value
overflow_add-value c = let l = c.loop-i in omega (arith, ten_most l.i 17 l.value l.invariant.1 (omega arith))
