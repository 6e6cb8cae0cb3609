-- `calendar::are_rising` meets its contract: each turn tests the next two months, and what is left is tested from the month after. Assumes nothing.
use mathlib.Core.Path.{◌≡◌, refl, sym, ◌∙◌, ap}
use mathlib.Core.Bool.{true, false}
use mathlib.Core.List.{List}
use Prim.Native.Nat.{ℕ, suc, ◌+◌, ◌*◌, ◌-◌, ◌/◌, ◌≤◌, ◌<◌}
use native.Mathlib.Omega.{arith}
use lib.ListN.{length, drop}
use lib.Dec.{eqb}
use borrow.Author.Tests.{not-true, not-false}
use borrow.Author.Rules.{rules}
use Rattle.calendar.specs.Terms.{rise, fits, first_month, last_month}
use Rattle.calendar.proofs.Lists.{unfit, fit, rest}
use Rattle.calendar.proofs.are_rising.Goals as goal

pub loop-k-init : goal.loop-k-init
loop-k-init c = (search rules, refl)

pub returns-then-not-is_fit : goal.returns-then-not-is_fit
returns-then-not-is_fit c =
    let x = c.args in
    let f : fits c.loop-k.free (first_month x.terms.now c.loop-k.k) (last_month x.terms.now c.loop-k.k) ≡ false =
    sym (λ i. fits c.loop-k.free (c.month-first.ensures.0 i) (c.month-last.ensures.0 i)) ∙ sym c.is_fit.ensures ∙ c.if-not-is_fit.true in
    sym (c.loop-k.invariant.1 ∙ unfit x.terms.now c.loop-k.free c.loop-k.k c.loop-k-test.true f)

pub loop-k-preserved : goal.loop-k-preserved
loop-k-preserved c =
    let x = c.args in
    let f : fits c.loop-k.free (first_month x.terms.now c.loop-k.k) (last_month x.terms.now c.loop-k.k) ≡ true =
    sym (λ i. fits c.loop-k.free (c.month-first.ensures.0 i) (c.month-last.ensures.0 i)) ∙ sym c.is_fit.ensures ∙ c.if-not-is_fit.false in
    let e : suc (last_month x.terms.now c.loop-k.k) ≡ c.month-last.result + 1 = omega (arith, c.month-last.ensures.0) in
    (search rules, c.loop-k.invariant.1 ∙ fit x.terms.now c.loop-k.free c.loop-k.k c.loop-k-test.true f ∙ ap (λ (m : ℕ). rise m (drop ((c.loop-k.k + 1) * 2) x.terms.now)) e)

pub returns : goal.returns
returns c =
    let s = c.args.terms.now in
    let e : c.loop-k.k ≡ length s / 2 = omega (arith, c.loop-k.invariant.0, c.loop-k-test.false) in
    sym (c.loop-k.invariant.1 ∙ rest s c.loop-k.free c.loop-k.k e ∙ ap (λ (k : ℕ). eqb (length s) (k * 2)) e)
