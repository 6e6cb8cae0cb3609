-- `graphbytes::put_two` meets its contract: the second number stands where the first ends. Assumes nothing.
use mathlib.Core.Path.{refl}
use Prim.Native.Nat.{◌+◌}
use native.Mathlib.Omega.{arith}
use Rattle.graphfile.specs.GraphFile.{u32}
use Rattle.graphbytes.proofs.Fill.{then}
use Rattle.graphbytes.proofs.put_two.Goals as goal

pub returns : goal.returns
returns c = let x = c.args in then x.out.now x.i (x.i + 4) (u32 x.a) (u32 x.b) c.put_word.ensures c.put_word-2.ensures refl (omega (arith, c.requires))
