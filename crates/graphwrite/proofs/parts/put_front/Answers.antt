-- `graphwrite::parts::put_front` meets its contract: the rows of the table stand one after another. Assumes nothing.
use native.Mathlib.Omega.{arith}
use Rattle.hash.specs.Bytes.{width_of}
use Rattle.commitgraph.specs.Graph.{hash_version}
use Rattle.hash.proofs.Widths.{times-most}
use Rattle.graphbytes.proofs.Fronts.{front_laid}
use Rattle.graphwrite.proofs.parts.put_front.Goals as goal

pub overflow_mul-width : goal.overflow_mul-width
overflow_mul-width c = omega (arith, times-most c.width.result 32 c.args.n 1048576 c.width.ensures.2 c.requires.2)

pub overflow_add-o-3 : goal.overflow_add-o-3
overflow_add-o-3 c = omega (arith, times-most c.width.result 32 c.args.n 1048576 c.width.ensures.2 c.requires.2, c.requires.1)

pub returns : goal.returns
returns c = let x = c.args in
    front_laid x.out.now c.version.result (hash_version x.kind) c.width.result (width_of x.kind) x.chunks x.o x.n c.requires.0 c.set_down.ensures c.put_chunk.ensures c.put_chunk-2.ensures c.put_chunk-3.ensures c.version.ensures c.width.ensures.0
