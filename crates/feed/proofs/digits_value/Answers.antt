-- `feed::digits_value` meets its contract. The loop's invariant: the value has i digits, and goes on with what follows as the number does.
-- The measure is what is left. Assumes nothing.
use Prim.Native.Nat.{ℕ, ◌+◌, ◌*◌, ◌^◌, ◌<◌}
use mathlib.Core.Path.{◌≡◌, refl, sym, ap, ◌∙◌}
use mathlib.Core.Bool.{true}
use native.Mathlib.Numerals.{add-one}
use native.Mathlib.Omega.{arith}
use lib.ListN.{get_or, drop}
use Rattle.actor.specs.Person.{digit}
use Rattle.actor.proofs.Numbers.{digit_bounds, ten_more, ten_most}
use Rattle.feed.specs.Feed.{decimal}
use Rattle.feed.specs.Passing.{number_read}
use Rattle.feed.proofs.Numbers.{at_none, at-digit, at-end}
use borrow.Author.Rules.{rules}
use Rattle.feed.proofs.digits_value.Goals as goal

pub loop-i-init : goal.loop-i-init
loop-i-init c = (search rules, search rules, refl)

pub returns-then-not-is_digit : goal.returns-then-not-is_digit
returns-then-not-is_digit c =
    let b = c.args.b.now in
    let d = sym c.is_digit.ensures ∙ c.if-not-is_digit.true in
    sym (ap number_read (c.loop-i.invariant.2 ∙ at_none c.loop-i.value c.loop-i.i b (search rules) d))

pub overflow_mul-value : goal.overflow_mul-value
overflow_mul-value c =
    let h = ten_most c.loop-i.i 10 c.loop-i.value c.loop-i.invariant.1 (omega arith) in
    omega arith

pub digit_value-requires : goal.digit_value-requires
digit_value-requires c =
    let told : digit (get_or c.args.b.now c.loop-i.i 0) ≡ true = sym c.is_digit.ensures ∙ c.if-not-is_digit.false in
    digit_bounds (get_or c.args.b.now c.loop-i.i 0) told

pub overflow_add-value : goal.overflow_add-value
overflow_add-value c =
    let h = ten_most c.loop-i.i 10 c.loop-i.value c.loop-i.invariant.1 (omega arith) in
    omega arith

pub loop-i-preserved : goal.loop-i-preserved
loop-i-preserved c =
    let told : digit (get_or c.args.b.now c.loop-i.i 0) ≡ true = sym c.is_digit.ensures ∙ c.if-not-is_digit.false in
    let b = c.args.b.now in
    let i = c.loop-i.i in
    let v = c.loop-i.value in
    let d = c.digit_value.ensures in
    let m : v * 10 + c.digit_value.result < 10 ^ (i + 1) = rw add-one (ten_more i v c.digit_value.result c.loop-i.invariant.1 d.1) in
    let s = at-digit v i b (search rules) told in
    (search rules, m, c.loop-i.invariant.2 ∙ s ∙ ap (λ (k : ℕ). decimal (v * 10 + k) (drop (i + 1) b)) (sym d.0))

pub returns : goal.returns
returns c =
    let b = c.args.b.now in
    sym (ap number_read (c.loop-i.invariant.2 ∙ at-end c.loop-i.value c.loop-i.i b (search rules)))
