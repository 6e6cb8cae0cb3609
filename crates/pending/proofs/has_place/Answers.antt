-- `has_place` meets its contract: it tests both parts of `Widens`. Assumes nothing.
use native.Mathlib.Omega.{arith}
use Prim.Native.Nat.{◌-◌}
use Rattle.hash.proofs.Decides.{decided-no, decided_lt}
use Rattle.pending.proofs.has_place.Goals as goal

pub returns-then-p : goal.returns-then-p
returns-then-p c = decided-no (λ w. omega (arith, w.free))

pub returns : goal.returns
returns c = let p = c.args.p in
    decided_lt (p.high - p.low) (p.start - p.high) (λ k. record { free = omega arith; apart = omega arith }) (λ w. omega (arith, w.apart))
