-- `table::find_slot` meets its contract. The loop's invariant: the slots passed are not empty and do not hold the id, and the slot
-- remembered is the first that is not live; so the answer at an empty slot, at the id and after the last slot is right. What is
-- left of the slots shrinks with each turn. Assumes nothing.
use borrow.Author.Rules.{rules}
use mathlib.Core.Path.{◌≡◌, sym, ap, ◌∙◌}
use mathlib.Core.Logic.{⊎_elim}
use Prim.Native.Nat.{ℕ, ◌+◌, ◌-◌, ◌*◌, ◌≤◌, ◌<◌}
use native.Mathlib.Omega.{arith}
use lib.ListN.{length}
use borrow.Author.Tests.{not-true, not-false}
use Rattle.hash.specs.Bytes.{width_of}
use Rattle.hash.proofs.Widths.{apart}
use Rattle.hashtable.proofs.TableWords.{stands, stands_so}
use Rattle.hashtable.proofs.MarksBits.{not_0_live}
use Rattle.hashtable.proofs.TableProbe.{Searching, told, untried, passed, remembered, at-found, at-empty, at-spare, at-full, wrong-sizes}
use Rattle.hashtable.proofs.table.find_slot.Given as goal

abbrev pub invariant-loop-i : goal.invariant-loop-i
invariant-loop-i l = Searching (width_of l.kind) l.painted l.names l.marks l.cap l.id l.h l.spare l.i

abbrev pub decreases-loop-i : goal.decreases-loop-i
decreases-loop-i l = l.cap - l.i
