-- `lists::pass_to_parents` meets its contract: after i turns the memory reads as the painting with i parents looked at. What is left of the list grows shorter. Assumes nothing.
use Rattle.frontier.specs.Paint.{lent}
use Rattle.frontier.proofs.Steps.{Passing}
use Rattle.hash.specs.Bytes.{width_of}
use Rattle.frontier.proofs.lists.pass_to_parents.Given as goal

abbrev pub invariant-loop-i : goal.invariant-loop-i
invariant-loop-i l = Passing (width_of l.kind) l.cache l.graph l.store l.cap (lent l.initial.names l.initial.marks l.initial.levels l.initial.times l.initial.line) (lent l.names l.marks l.levels l.times l.line) l.initial.q l.commit l.bits l.i l.q
