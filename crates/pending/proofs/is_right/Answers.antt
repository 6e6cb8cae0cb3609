-- `is_right` meets its contract: each refusal lacks a part of `Right`. Assumes nothing.
use native.Mathlib.Omega.{arith}
use lib.ListN.{length}
use Rattle.hash.proofs.Decides.{decided-no, decided_le}
use Rattle.pending.proofs.is_right.Goals as goal

pub returns-then-p : goal.returns-then-p
returns-then-p c = decided-no (λ r. omega (arith, r.base))

pub returns-then-p-2 : goal.returns-then-p-2
returns-then-p-2 c = decided-no (λ r. omega (arith, r.low))

pub returns-then-p-3 : goal.returns-then-p-3
returns-then-p-3 c = decided-no (λ r. omega (arith, r.apart))

pub returns-then-p-4 : goal.returns-then-p-4
returns-then-p-4 c = decided-no (λ r. omega (arith, r.apart))

pub returns-then-p-5 : goal.returns-then-p-5
returns-then-p-5 c = decided-no (λ r. omega (arith, r.start))

pub returns : goal.returns
returns c = let x = c.args in
    decided_le x.p.end (length x.line.now) (λ k. record { base = omega arith; low = omega arith; apart = omega arith; start = omega arith; end = k }) (λ r. r.end)
