-- `lists::mark_run` meets its contract: after i turns the memory reads as the painting of the commits in the first i slots. What is left of them grows fewer. Assumes nothing.
use Rattle.frontier.specs.Paint.{lent}
use Rattle.frontier.proofs.Runs.{Running}
use Rattle.hash.specs.Bytes.{width_of}
use Rattle.frontier.proofs.lists.mark_run.Given as goal

abbrev pub invariant-loop-i : goal.invariant-loop-i
invariant-loop-i l = Running (width_of l.kind) l.cache l.graph l.store l.cap (lent l.initial.names l.initial.marks l.initial.levels l.initial.times l.initial.line) (lent l.names l.marks l.levels l.times l.line) l.initial.q l.from l.n l.bits l.i l.q
