-- The proof of `bed_to_move` and `cone_to_move`, which call one another. Each one's measure is the moves left. What the memo does not settle is judged
-- parent by parent with one move fewer, and noted. Assumes nothing.
use mathlib.Core.Path.{◌≡◌, refl}
use Prim.Native.Nat.{◌-◌, ◌≤◌}
use mathlib.Core.Bool.{true, false}
use native.Mathlib.Omega.{arith}
use borrow.Author.Rules.{rules}
use Rattle.hash.specs.Bytes.{width_of}
use Rattle.hash.proofs.Widths.{width-most}
use Rattle.walk.specs.Opening.{list_ids}
use Rattle.moves.proofs.Judging.{judged_as, Turning, turning_first, turning-next, judge-settled, judge-found, judge-ended}
use Rattle.moves.proofs.+bed_to_move_cone_to_move.Given as goal

abbrev pub decreases-bed_to_move : goal.decreases-bed_to_move
decreases-bed_to_move l = l.d

abbrev pub decreases-cone_to_move : goal.decreases-cone_to_move
decreases-cone_to_move l = l.d

abbrev pub invariant-bed_to_move-loop-i : goal.invariant-bed_to_move-loop-i
invariant-bed_to_move-loop-i l = (l.i ≤ l.count) × Turning (width_of l.kind) l.store (list_ids (width_of l.kind) l.list) true (l.d - 1) l.body l.initial.memo l.memo l.i

abbrev pub decreases-bed_to_move-loop-i : goal.decreases-bed_to_move-loop-i
decreases-bed_to_move-loop-i l = l.count - l.i

abbrev pub invariant-cone_to_move-loop-i : goal.invariant-cone_to_move-loop-i
invariant-cone_to_move-loop-i l = (l.i ≤ l.count) × Turning (width_of l.kind) l.store (list_ids (width_of l.kind) l.list) false (l.d - 1) l.body l.initial.memo l.memo l.i

abbrev pub decreases-cone_to_move-loop-i : goal.decreases-cone_to_move-loop-i
decreases-cone_to_move-loop-i l = l.count - l.i
