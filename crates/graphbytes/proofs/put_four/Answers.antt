-- `graphbytes::put_four` meets its contract: where the numbers do not fit nothing is done; else the third stands where the second ends. Assumes nothing.
use mathlib.Core.Path.{refl, sym}
use mathlib.Core.List.{◌++◌}
use Prim.Native.Nat.{◌+◌}
use native.Mathlib.Omega.{arith}
use Rattle.hash.proofs.Bytes.{set_down-not}
use Rattle.graphfile.specs.GraphFile.{u32}
use Rattle.graphbytes.specs.Words.{four_words}
use Rattle.graphbytes.proofs.Fill.{then}
use borrow.Author.Rules.{rules}
use Rattle.graphbytes.proofs.put_four.Goals as goal

pub returns-then-n-lt16 : goal.returns-then-n-lt16
returns-then-n-lt16 c = let x = c.args in sym (set_down-not x.out.now x.i (four_words x.a x.b x.c x.d) (omega arith))

pub returns-then-n-i : goal.returns-then-n-i
returns-then-n-i c = let x = c.args in sym (set_down-not x.out.now x.i (four_words x.a x.b x.c x.d) (omega arith))

pub returns : goal.returns
returns c =
    let x = c.args in
    then x.out.now x.i (x.i + 8) (u32 x.a ++ u32 x.b) (u32 x.c ++ u32 x.d) c.put_two.ensures c.put_two-2.ensures refl (search rules)
