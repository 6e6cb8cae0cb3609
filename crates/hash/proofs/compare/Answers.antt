-- `hash::compare` meets its contract: up to place i the two agree, so the comparison is that of what is left; the first eight bytes that
-- differ decide it, and where one of the two has fewer than eight, the comparison of the rest. Assumes nothing.
use mathlib.Core.Path.{refl, sym, ◌∙◌}
use native.Mathlib.Omega.{arith}
use Rattle.hash.proofs.Words.{compare-long, long-less, long_greater}
use borrow.Author.Rules.{rules}
use Rattle.hash.proofs.compare.Goals as goal

pub loop-i-init : goal.loop-i-init
loop-i-init c = (search rules, refl)

pub returns-then-x-y : goal.returns-then-x-y
returns-then-x-y c =
    let k = c in
    let x = k.args in
    sym (c.loop-i.invariant.1 ∙ long-less x.a.now x.b.now c.loop-i.i (λ k. omega (arith, c.type_inv.a k)) (λ k. omega (arith, c.type_inv.b k)) (omega arith) (omega arith) (omega (arith, c.if-x-y.true, c.long_at-y.ensures, c.long_at-x.ensures)))

pub returns-then-y-x : goal.returns-then-y-x
returns-then-y-x c =
    let k = c in
    let x = k.args in
    sym (c.loop-i.invariant.1 ∙ long_greater x.a.now x.b.now c.loop-i.i (λ k. omega (arith, c.type_inv.a k)) (λ k. omega (arith, c.type_inv.b k)) (omega arith) (omega arith) (omega (arith, c.if-y-x.true, c.long_at-y.ensures, c.long_at-x.ensures)))

pub loop-i-preserved : goal.loop-i-preserved
loop-i-preserved c =
    let k = c in
    let x = k.args in
    (search rules, c.loop-i.invariant.1 ∙ compare-long x.a.now x.b.now c.loop-i.i (λ k. omega (arith, c.type_inv.a k)) (λ k. omega (arith, c.type_inv.b k)) (omega arith) (omega arith) (omega (arith, c.if-y-x.false, c.if-x-y.false, c.long_at-y.ensures, c.long_at-x.ensures)))

pub returns : goal.returns
returns c = c.compare_from.ensures ∙ sym c.loop-i.invariant.1
