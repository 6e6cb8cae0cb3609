-- `reportwire::terms::can_count` meets its contract: the first slice that is too short makes the whole false. Assumes nothing.
use Prim.Native.Nat.{◌/◌, ◌≤◌}
use native.Mathlib.Omega.{arith}
use lib.ListN.{length}
use borrow.Author.Tests.{le-leb, lt-leb}
use Rattle.reportwire.specs.Terms.{room_for_terms}
use Rattle.reportwire.proofs.terms.can_count.Goals as goal

pub returns-then-counts-months : goal.returns-then-counts-months
unfolding room_for_terms
returns-then-counts-months c = rw (lt-leb _ _ c.if-counts-months.true)

pub returns : goal.returns
unfolding room_for_terms
returns c = let x = c.args in
    let h : length x.months.now / 2 ≤ length x.counts.now = omega (arith, c.if-counts-months.false) in
    rw (le-leb _ _ h)
