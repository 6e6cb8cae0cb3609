-- `graphwrite::parts::write_front` meets its contract: without entries of EDGE the table has three chunks, else four. Assumes nothing.
use Rattle.hash.specs.Bytes.{width_of}
use Rattle.commitgraph.specs.Graph.{hash_version}
use Rattle.graphbytes.proofs.Fronts.{three_laid, four_laid}
use Rattle.graphwrite.proofs.parts.write_front.Goals as goal

pub returns-then-e-eq0 : goal.returns-then-e-eq0
returns-then-e-eq0 c = let x = c.args in
    three_laid x.out.now (hash_version x.kind) (width_of x.kind) x.n x.e c.rows_end.result c.requires.0 c.put_front.ensures c.put_chunk.ensures c.rows_end.ensures.0 c.if-e-eq0.true

pub returns : goal.returns
returns c = let x = c.args in
    four_laid x.out.now (hash_version x.kind) (width_of x.kind) x.n x.e c.rows_end-end.result c.requires.0 c.put_front-2.ensures c.put_chunk-2.ensures c.put_chunk-3.ensures c.rows_end-end.ensures.0 c.if-e-eq0.false
