-- `lists::mark_list` meets its contract: after i turns the memory reads as the painting of the first i ids. What is left of the list grows shorter. Assumes nothing.
use Rattle.walk.specs.Opening.{list_ids}
use Rattle.walk.specs.Painting.{mark_all}
use Rattle.frontier.specs.Paint.{lent}
use Rattle.frontier.proofs.Steps.{Turning}
use Rattle.hash.specs.Bytes.{width_of}
use Rattle.frontier.proofs.lists.mark_list.Given as goal

abbrev pub invariant-loop-i : goal.invariant-loop-i
invariant-loop-i l = Turning (width_of l.kind) mark_all l.cache l.graph l.store l.cap (lent l.initial.names l.initial.marks l.initial.levels l.initial.times l.initial.line) (lent l.names l.marks l.levels l.times l.line) l.initial.q (list_ids (width_of l.kind) l.list) l.bits l.n l.i l.q
