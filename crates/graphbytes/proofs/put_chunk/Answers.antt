-- `graphbytes::put_chunk` meets its contract: where the row does not fit nothing is done; else the offset stands where the id ends. Assumes nothing.
use mathlib.Core.Path.{refl, sym}
use mathlib.Core.List.{◌++◌}
use Prim.Native.Nat.{◌+◌}
use native.Mathlib.Omega.{arith}
use Rattle.hash.proofs.Bytes.{set_down-not}
use Rattle.graphfile.specs.GraphFile.{u32}
use Rattle.graphbytes.specs.Words.{chunk_row}
use Rattle.graphbytes.proofs.Fill.{then}
use borrow.Author.Rules.{rules}
use Rattle.graphbytes.proofs.put_chunk.Goals as goal

pub returns-then-n-lt12 : goal.returns-then-n-lt12
returns-then-n-lt12 c = let x = c.args in sym (set_down-not x.out.now x.i (chunk_row x.id x.offset) (omega arith))

pub returns-then-n-i : goal.returns-then-n-i
returns-then-n-i c = let x = c.args in sym (set_down-not x.out.now x.i (chunk_row x.id x.offset) (omega arith))

pub returns : goal.returns
returns c =
    let x = c.args in
    then x.out.now x.i (x.i + 4) (u32 x.id) (u32 0 ++ u32 x.offset) c.put_word.ensures c.put_two.ensures refl (search rules)
