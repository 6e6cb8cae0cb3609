-- `object::after_parents` meets its contract: every line that was passed is a parent line, and none stands where the loop ends.
-- Assumes nothing.
use Prim.Native.Nat.{◌-◌}
use lib.ListN.{length}
use Rattle.object.proofs.Parents.{Skipped}
use Rattle.hash.specs.Bytes.{width_of}
use borrow.Author.Rules.{rules}
use Rattle.object.proofs.after_parents.Given as goal

abbrev pub invariant-loop-kind : goal.invariant-loop-kind
invariant-loop-kind l = Skipped (width_of l.kind) l.body l.at l.p

abbrev pub decreases-loop-kind : goal.decreases-loop-kind
decreases-loop-kind l = length l.body - l.p
