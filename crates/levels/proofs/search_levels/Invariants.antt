-- `levels::search_levels` meets its contract: each turn leaves fewer turns, and the last one tells the answer. Assumes nothing.
use Rattle.hash.specs.Bytes.{width_of}
use Rattle.levels.specs.StoreGraph.{store_graph}
use Rattle.levels.specs.Search.{Going, left, at}
use Rattle.levels.proofs.search_levels.Given as goal

abbrev pub invariant-loop-a : goal.invariant-loop-a
invariant-loop-a l = Going (store_graph (width_of l.kind) l.store l.n) l.initial.levels l.levels l.top l.root

abbrev pub decreases-loop-a : goal.decreases-loop-a
decreases-loop-a l = left (store_graph (width_of l.kind) l.store l.n) (at l.levels) l.root
