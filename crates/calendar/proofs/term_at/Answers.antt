-- `calendar::term_at` meets its contract: seconds before 1970 lie in no term; else the term that began last has the day, or none. Assumes nothing.
use mathlib.Core.Path.{◌≡◌, sym, ◌∙◌, ap}
use Prim.Native.Nat.{ℕ, suc, ◌+◌, ◌-◌, ◌<◌}
use native.Mathlib.Omega.{arith}
use borrow.Author.Rules.{rules}
use Rattle.calendar.specs.Months.{first_day, tabled}
use Rattle.calendar.specs.Terms.{term_at, last_month}
use Rattle.calendar.proofs.Begins.{too-early, not_negative, none-begun, still-on, over-by-then, last_of_lem}
use Rattle.calendar.proofs.term_at.Goals as goal

pub returns-then-is_negative : goal.returns-then-is_negative
returns-then-is_negative c =
    (search rules, λ good. too-early c.args.seconds c.ranges.seconds c.is_negative.ensures c.args.terms.now c.if-is_negative.true)

pub returns-then-k-eq0 : goal.returns-then-k-eq0
returns-then-k-eq0 c =
    let l = c.args.terms.now in
    (search rules, λ good. sym (none-begun l good c.magnitude-day.result c.begun-k.result c.begun-k.ensures c.if-k-eq0.true) ∙ ap (term_at l) (not_negative c.args.seconds c.ranges.seconds c.is_negative.ensures c.if-is_negative.false c.magnitude-day.ensures))

pub returns-then-day-first_day : goal.returns-then-day-first_day
returns-then-day-first_day c =
    let l = c.args.terms.now in
    let j = c.begun-k.result - 1 in
    let p : 0 < c.begun-k.result = omega (arith, c.if-k-eq0.false) in
    let e : c.begun-k.result ≡ suc j = omega (arith, p) in
    let f : c.first_day.result ≡ first_day (tabled (last_month l j + 1)) = c.first_day.ensures ∙ ap (λ (x : ℕ). first_day (tabled (x + 1))) (c.month.ensures.0 ∙ last_of_lem l c.begun-k.result p) in
    (search rules, λ good. sym (still-on l good c.magnitude-day.result c.begun-k.result c.begun-k.ensures j e (omega (arith, f, c.if-day-first_day.true))) ∙ ap (term_at l) (not_negative c.args.seconds c.ranges.seconds c.is_negative.ensures c.if-is_negative.false c.magnitude-day.ensures))

pub returns : goal.returns
returns c =
    let l = c.args.terms.now in
    let j = c.begun-k.result - 1 in
    let p : 0 < c.begun-k.result = omega (arith, c.if-k-eq0.false) in
    let e : c.begun-k.result ≡ suc j = omega (arith, p) in
    let f : c.first_day.result ≡ first_day (tabled (last_month l j + 1)) = c.first_day.ensures ∙ ap (λ (x : ℕ). first_day (tabled (x + 1))) (c.month.ensures.0 ∙ last_of_lem l c.begun-k.result p) in
    (search rules, λ good. sym (over-by-then l good c.magnitude-day.result c.begun-k.result c.begun-k.ensures j e (omega (arith, f, c.if-day-first_day.false))) ∙ ap (term_at l) (not_negative c.args.seconds c.ranges.seconds c.is_negative.ensures c.if-is_negative.false c.magnitude-day.ensures))
