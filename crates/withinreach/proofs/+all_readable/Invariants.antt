-- The proof of `all_readable`, which calls itself. The measure is the steps left. What the memo does not say is found parent by parent with one step
-- fewer, and noted. Assumes nothing.
use mathlib.Core.Path.{◌≡◌, refl, sym, ◌∙◌}
use native.Mathlib.Omega.{arith}
use borrow.Author.Rules.{rules}
use Prim.Native.Nat.{◌-◌, ◌≤◌}
use Rattle.withinreach.proofs.Reading.{Stepping, stepping_first, stepping_next, read_as, read_known, read-not, read-still, read_found, read-ended}
use Rattle.hash.specs.Bytes.{width_of}
use Rattle.hash.proofs.Widths.{width-most}
use Rattle.withinreach.proofs.+all_readable.Given as goal

abbrev pub decreases-all_readable : goal.decreases-all_readable
decreases-all_readable l = l.d

abbrev pub invariant-loop-i : goal.invariant-loop-i
invariant-loop-i l = (l.i ≤ l.parents) × Stepping (width_of l.kind) l.store (l.d - 1) l.body l.initial.memo l.memo l.i

abbrev pub decreases-loop-i : goal.decreases-loop-i
decreases-loop-i l = l.parents - l.i
