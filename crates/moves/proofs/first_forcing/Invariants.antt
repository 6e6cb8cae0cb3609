-- `first_forcing` meets its contract: no parent before i does, and the first that does ends the search. Assumes nothing.
use mathlib.Core.Path.{◌∙◌}
use Prim.Native.Nat.{◌-◌, ◌≤◌}
use mathlib.Core.Bool.{false}
use native.Mathlib.Omega.{arith}
use borrow.Author.Rules.{rules}
use Rattle.walk.specs.Opening.{list_ids}
use Rattle.moves.proofs.Judging.{found_as, Turning, turning_first, turning-next, first_found, first_ended}
use Rattle.moves.proofs.first_forcing.Reads as reads
use Rattle.memo.proofs.parent_count.Reads as parent-count-reads
use Rattle.moves.proofs.bed_to_move.Reads as bed-to-move-reads
use Rattle.object.proofs.id_slice.Reads as id-slice-reads
use Rattle.reading.proofs.body_parent.Reads as body-parent-reads
use Rattle.reading.proofs.stored_body.Reads as stored-body-reads
use Rattle.hash.specs.Bytes.{width_of}
use Rattle.hash.proofs.Widths.{width-most}
use Rattle.moves.proofs.first_forcing.Given as goal

abbrev pub invariant-loop-i : goal.invariant-loop-i
invariant-loop-i l = (l.i ≤ l.count) × Turning (width_of l.kind) l.store (list_ids (width_of l.kind) l.list) false l.d l.body l.initial.memo l.memo l.i

abbrev pub decreases-loop-i : goal.decreases-loop-i
decreases-loop-i l = l.count - l.i
