-- `row_agrees` meets its contract: number, seconds and parents are compared. Assumes nothing.
use mathlib.Core.Path.{sym, ◌∙◌}
use borrow.Author.Tests.{not-true, not-false}
use Rattle.judging.proofs.Judging.{same_told, row_count, row-time, row-both}
use Rattle.hash.specs.Bytes.{width_of}
use Rattle.judging.proofs.row_agrees.Goals as goal

pub returns-then-n-parents : goal.returns-then-n-parents
returns-then-n-parents c = let x = c.args in row_count (width_of x.kind) x.graph.now x.l x.position x.parents x.time.0 x.body.now x.n x.seconds.0 c.if-n-parents.true

pub returns-then-ne : goal.returns-then-ne
returns-then-ne c = let x = c.args in row-time (width_of x.kind) x.graph.now x.l x.position x.parents x.time.0 x.body.now x.n x.seconds.0 (sym (same_told x.seconds.0 x.time.0) ∙ not-true _ (sym c.ne.ensures ∙ c.if-ne.true))

pub returns : goal.returns
returns c = let x = c.args in row-both (width_of x.kind) x.graph.now x.l x.position x.parents x.time.0 x.body.now x.n x.seconds.0 c.if-n-parents.false (sym (same_told x.seconds.0 x.time.0) ∙ not-false _ (sym c.ne.ensures ∙ c.if-ne.false)) c.same_parents.ensures
