-- `level` meets its contract: the stated level where levels are used. Assumes nothing.
use mathlib.Core.Path.{sym, ◌∙◌}
use Rattle.hash.specs.Bytes.{width_of}
use Rattle.commitgraph.specs.Graph.{level_in}
use Rattle.commitgraph.proofs.Levels.{level-used}
use borrow.Author.Rules.{rules}
use Rattle.commitgraph.proofs.rows.level.Goals as goal

pub returns-then-l : goal.returns-then-l
returns-then-l c = let x = c.args in
    c.stated_level.ensures ∙ sym (level-used (width_of x.kind) x.graph.now x.l x.p c.if-l.true)

pub returns : goal.returns
unfolding level_in
returns c = search rules
