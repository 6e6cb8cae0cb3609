-- `calendar::is_fit` meets its contract: the first test that fails decides. Assumes nothing.
use mathlib.Core.Path.{refl}
use Prim.Native.Nat.{◌≤◌}
use native.Mathlib.Omega.{arith}
use borrow.Author.Tests.{le-leb, lt-leb}
use Rattle.calendar.specs.Terms.{fits}
use Rattle.calendar.proofs.is_fit.Goals as goal

pub returns-then-first-free : goal.returns-then-first-free
unfolding fits
returns-then-first-free c = rw (lt-leb _ _ c.if-first-free.true)

pub returns-then-last-first : goal.returns-then-last-first
unfolding fits
returns-then-last-first c = let x = c.args in
    let h : x.free ≤ x.first = omega (arith, c.if-first-free.false) in
    rw (le-leb _ _ h, lt-leb _ _ c.if-last-first.true)

pub returns : goal.returns
unfolding fits
returns c = let x = c.args in
    let h : x.free ≤ x.first = omega (arith, c.if-first-free.false) in
    let g : x.first ≤ x.last = omega (arith, c.if-last-first.false) in
    rw (le-leb _ _ h, le-leb _ _ g)
