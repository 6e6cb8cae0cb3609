-- `table::clear` meets its contract: after n turns the first n marks are 0 and the others as they were. Assumes nothing.
use borrow.Author.Rules.{rules}
use mathlib.Core.Path.{◌≡◌, refl, ◌∙◌, ap}
use Prim.Native.Nat.{ℕ, ◌-◌, ◌≤◌}
use native.Mathlib.Omega.{arith}
use native.Mathlib.Numerals.{add-one}
use lib.ListN.{length, length-set}
use Rattle.hashtable.specs.Table.{cleared}
use Rattle.hashtable.proofs.TableClear.{cleared_more, cleared-all}
use Rattle.hashtable.proofs.table.clear.Given as goal

abbrev pub invariant-loop-slot : goal.invariant-loop-slot
invariant-loop-slot l = (l.slot ≤ l.cap) × (length l.marks ≡ length l.initial.marks) × (l.marks ≡ cleared l.slot l.initial.marks)

abbrev pub decreases-loop-slot : goal.decreases-loop-slot
decreases-loop-slot l = length l.initial.marks - l.slot
