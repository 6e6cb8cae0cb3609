-- `reading::cache_of` meets its contract: it goes by the same tests. Assumes nothing.
use Rattle.reading.proofs.World.{cache-dropped, cache-empty, cache_used}
use borrow.Author.Rules.{rules}
use Rattle.reading.proofs.cache_of.Goals as goal

pub returns-then-graph-eq0 : goal.returns-then-graph-eq0
returns-then-graph-eq0 c = let x = c.args in cache-empty x.graph.now x.layout x.kept c.if-graph-eq0.true c.if-kept.true

pub returns-then-kept : goal.returns-then-kept
returns-then-kept c = let x = c.args in cache_used x.graph.now x.layout x.kept c.if-graph-eq0.false c.if-kept.true

pub returns : goal.returns
returns c = let x = c.args in cache-dropped x.graph.now x.layout x.kept c.if-kept.false
