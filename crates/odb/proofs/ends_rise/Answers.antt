-- `odb::ends_rise` meets its contract. The loop's invariant: the first k ends never fall, and the last of them is the start of the next body.
-- The measure is the number of entries left. Assumes nothing.
use mathlib.Core.Path.{◌≡◌, refl, sym, ◌∙◌}
use Prim.Native.Nat.{◌-◌, ◌+◌, ◌≤◌}
use mathlib.Core.Bool.{true}
use native.Mathlib.Omega.{arith}
use native.Mathlib.Numerals.{add-one}
use Rattle.hash.proofs.Widths.{apart}
use Rattle.odb.specs.Store.{entry_size, body_start, ends_rise}
use Rattle.odb.proofs.Store.{ends-step}
use Rattle.odb.proofs.Check.{end_falls}
use borrow.Author.Rules.{rules}
use Rattle.odb.proofs.ends_rise.Goals as goal

pub loop-k-init : goal.loop-k-init
unfolding ends_rise body_start
loop-k-init c = (search rules, refl, refl)

pub body_end-end-requires : goal.body_end-end-requires
body_end-end-requires c =
    (c.requires.0, omega (arith, c.requires.1, apart (entry_size c.args.w) c.loop-k-test.true))

pub returns-then-end-last : goal.returns-then-end-last
returns-then-end-last c =
    let x = c.args in
    end_falls x.w x.store.now c.loop-k.k x.n _ c.loop-k-test.true (omega (arith, c.if-end-last.true, c.body_end-end.ensures, c.loop-k.invariant.2))

pub loop-k-preserved : goal.loop-k-preserved
unfolding body_start
loop-k-preserved c =
    let x = c.args in
    (search rules, rw (add-one c.loop-k.k) (ends-step x.w x.store.now c.loop-k.k c.loop-k.invariant.1 (omega (arith, c.if-end-last.false, c.body_end-end.ensures, c.loop-k.invariant.2))), rw (add-one c.loop-k.k) c.body_end-end.ensures)

pub returns : goal.returns
returns c =
    let z : c.args.n ≡ c.loop-k.k = omega (arith, c.loop-k.invariant.0) in
    rw (z, c.loop-k.invariant.1, c.loop-k.invariant.2)
