-- The proof of `bed_to_move` and `cone_to_move`, which call one another. Each one's measure is the moves left. What the memo does not settle is judged
-- parent by parent with one move fewer, and noted. Assumes nothing.
use mathlib.Core.Path.{◌≡◌, refl}
use Prim.Native.Nat.{◌-◌, ◌≤◌}
use mathlib.Core.Bool.{true, false}
use native.Mathlib.Omega.{arith}
use borrow.Author.Rules.{rules}
use Rattle.hash.specs.Bytes.{width_of}
use Rattle.hash.proofs.Widths.{width-most}
use Rattle.walk.specs.Opening.{list_ids}
use Rattle.moves.proofs.Judging.{judged_as, Turning, turning_first, turning-next, judge-settled, judge-found, judge-ended}
use Rattle.moves.proofs.+bed_to_move_cone_to_move.Goals as goal

pub bed_to_move-returns-then-s-ne0 : goal.bed_to_move-returns-then-s-ne0
bed_to_move-returns-then-s-ne0 t c = judged_as c.id_slice-x.ensures (judge-settled (width_of c.args.kind) c.args.store.now (list_ids (width_of c.args.kind) c.args.list.now) c.count-n.ensures _ c.entry_of-k.ensures (c.settled-s.ensures c.count-n.ensures) c.if-s-ne0.true)

pub bed_to_move-loop-i-init : goal.bed_to_move-loop-i-init
bed_to_move-loop-i-init t c = (search rules, turning_first (width_of c.args.kind) c.args.store.now (list_ids (width_of c.args.kind) c.args.list.now) true (c.args.d - 1) _ _)

pub bed_to_move-cone_to_move-requires : goal.bed_to_move-cone_to_move-requires
bed_to_move-cone_to_move-requires t c = (let h = (c.settled-s.ensures c.count-n.ensures).left c.if-s-ne0.false in omega (arith, h, c.decreases), tt)

pub bed_to_move-returns-then-not-cone_to_move : goal.bed_to_move-returns-then-not-cone_to_move
bed_to_move-returns-then-not-cone_to_move t c = judged_as c.id_slice-x.ensures (judge-found (width-most c.args.kind) c.count-n.ensures c.entry_of-k.ensures (c.settled-s.ensures c.count-n.ensures) c.if-s-ne0.false c.stored_body-body.ensures c.parent_count-count.ensures c.loop-i.invariant.1 c.body_parent.result c.loop-i-test.true c.body_parent.ensures c.cone_to_move.ensures c.if-not-cone_to_move.true c.note.ensures)

pub bed_to_move-loop-i-preserved : goal.bed_to_move-loop-i-preserved
bed_to_move-loop-i-preserved t c = (search rules, turning-next c.loop-i.invariant.1 c.body_parent.result c.body_parent.ensures c.cone_to_move.ensures c.if-not-cone_to_move.false c.cone_to_move.auto.memo)

pub bed_to_move-returns : goal.bed_to_move-returns
bed_to_move-returns t c = judged_as c.id_slice-x.ensures (judge-ended (width-most c.args.kind) c.count-n.ensures c.entry_of-k.ensures (c.settled-s.ensures c.count-n.ensures) c.if-s-ne0.false c.stored_body-body.ensures c.parent_count-count.ensures c.loop-i.invariant.1 c.loop-i-test.false refl c.note-2.ensures)

pub cone_to_move-returns-then-s-ne0 : goal.cone_to_move-returns-then-s-ne0
cone_to_move-returns-then-s-ne0 t c = judged_as c.id_slice-x.ensures (judge-settled (width_of c.args.kind) c.args.store.now (list_ids (width_of c.args.kind) c.args.list.now) c.count-n.ensures _ c.entry_of-k.ensures (c.settled-s.ensures c.count-n.ensures) c.if-s-ne0.true)

pub cone_to_move-loop-i-init : goal.cone_to_move-loop-i-init
cone_to_move-loop-i-init t c = (search rules, turning_first (width_of c.args.kind) c.args.store.now (list_ids (width_of c.args.kind) c.args.list.now) false (c.args.d - 1) _ _)

pub cone_to_move-bed_to_move-requires : goal.cone_to_move-bed_to_move-requires
cone_to_move-bed_to_move-requires t c = (let h = (c.settled-s.ensures c.count-n.ensures).left c.if-s-ne0.false in omega (arith, h, c.decreases), tt)

pub cone_to_move-returns-then-bed_to_move : goal.cone_to_move-returns-then-bed_to_move
cone_to_move-returns-then-bed_to_move t c = judged_as c.id_slice-x.ensures (judge-found (width-most c.args.kind) c.count-n.ensures c.entry_of-k.ensures (c.settled-s.ensures c.count-n.ensures) c.if-s-ne0.false c.stored_body-body.ensures c.parent_count-count.ensures c.loop-i.invariant.1 c.body_parent.result c.loop-i-test.true c.body_parent.ensures c.bed_to_move.ensures c.if-bed_to_move.true c.note.ensures)

pub cone_to_move-loop-i-preserved : goal.cone_to_move-loop-i-preserved
cone_to_move-loop-i-preserved t c = (search rules, turning-next c.loop-i.invariant.1 c.body_parent.result c.body_parent.ensures c.bed_to_move.ensures c.if-bed_to_move.false c.bed_to_move.auto.memo)

pub cone_to_move-returns : goal.cone_to_move-returns
cone_to_move-returns t c = judged_as c.id_slice-x.ensures (judge-ended (width-most c.args.kind) c.count-n.ensures c.entry_of-k.ensures (c.settled-s.ensures c.count-n.ensures) c.if-s-ne0.false c.stored_body-body.ensures c.parent_count-count.ensures c.loop-i.invariant.1 c.loop-i-test.false refl c.note-2.ensures)
