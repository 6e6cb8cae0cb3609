-- `hash::be64_at_end` meets its contract: a u32 past the end is 0. Assumes nothing.
use native.Mathlib.Omega.{arith}
use Prim.Native.Nat.{◌+◌}
use Rattle.hash.specs.Bytes.{u64_at}
use Rattle.hash.proofs.Bytes.{u32_at-past}
use Rattle.hash.proofs.be64_at_end.Goals as goal

pub returns-then-s-i : goal.returns-then-s-i
unfolding u64_at
returns-then-s-i c = let x = c.args in
    omega (arith, c.long-high.ensures.0, c.be32.ensures, u32_at-past x.s.now (x.i + 4) (omega arith))

pub returns-then-s-i-le4 : goal.returns-then-s-i-le4
unfolding u64_at
returns-then-s-i-le4 c = let x = c.args in
    omega (arith, c.long-high.ensures.0, c.be32.ensures, u32_at-past x.s.now (x.i + 4) (omega arith))

pub returns : goal.returns
unfolding u64_at
returns c =
    omega (arith, c.long.ensures.0, c.be32-2.ensures, c.long-high.ensures.0, c.be32.ensures)
