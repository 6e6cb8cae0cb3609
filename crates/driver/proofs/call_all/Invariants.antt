-- `call_all` meets its contract: after each turn the tally is that of as many calls of the walk. Assumes nothing.
use mathlib.Core.Path.{ap}
use native.Mathlib.Omega.{arith}
use Rattle.hash.specs.Bytes.{width_of}
use Rattle.walk.specs.Opening.{Lengths}
use Rattle.traverse.specs.Contract.{lengths_of}
use Rattle.traverse.specs.Open.{lent_of}
use Rattle.traverse.specs.Next.{files_lent}
use Rattle.tally.specs.Tally.{Ready}
use Rattle.tally.proofs.Few.{few_up}
use Rattle.driver.proofs.Turns.{Turns, turns-start, left-low, turns_next, turns-end}
use borrow.Author.Rules.{rules}
use Rattle.driver.proofs.call_all.Given as goal

abbrev pub invariant-loop-left : goal.invariant-loop-left
invariant-loop-left l = Turns l.task l.embargoed l.terms (files_lent l.store l.graph l.hidden l.excluded l.settings) l.n l.initial.d (lent_of l.initial.names l.initial.marks l.initial.levels l.initial.times l.initial.line l.initial.parents) l.initial.ids l.initial.counts l.d (lent_of l.names l.marks l.levels l.times l.line l.parents) l.ids l.counts l.left

abbrev pub decreases-loop-left : goal.decreases-loop-left
decreases-loop-left l = l.left
