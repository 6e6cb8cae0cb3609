-- `list_calls` meets its contract: after each turn the lines so far stand in `out`, and the memory reads as the walk's state. Assumes nothing.
use Rattle.traverse.specs.Next.{files_lent}
use Rattle.traverse.specs.Open.{lent_of}
use Rattle.swatch.specs.Text.{breadth_all}
use Rattle.swatch.proofs.Listing.{Loop}
use Rattle.swatch.proofs.list_calls.Given as goal

abbrev pub invariant-loop-left : goal.invariant-loop-left
invariant-loop-left l = Loop (files_lent l.store l.none l.none l.none breadth_all) l.calls l.initial.r (lent_of l.initial.names l.initial.marks l.initial.levels l.initial.times l.initial.line l.initial.parents) l.initial.out l.left l.r (lent_of l.names l.marks l.levels l.times l.line l.parents) l.out l.at

abbrev pub decreases-loop-left : goal.decreases-loop-left
decreases-loop-left l = l.left
