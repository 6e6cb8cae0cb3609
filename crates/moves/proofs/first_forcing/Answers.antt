-- `first_forcing` meets its contract: no parent before i does, and the first that does ends the search. Assumes nothing.
use mathlib.Core.Path.{◌≡◌, ◌∙◌}
use Prim.Native.Nat.{◌-◌, ◌≤◌}
use mathlib.Core.Bool.{false}
use native.Mathlib.Omega.{arith}
use borrow.Author.Rules.{rules}
use Rattle.walk.specs.Opening.{list_ids}
use Rattle.moves.proofs.Judging.{found_as, Turning, turning_first, turning-next, first_found, first_ended}
use Rattle.moves.proofs.first_forcing.Reads as reads
use Rattle.memo.proofs.parent_count.Reads as parent-count-reads
use Rattle.moves.proofs.bed_to_move.Reads as bed-to-move-reads
use Rattle.object.proofs.id_slice.Reads as id-slice-reads
use Rattle.reading.proofs.body_parent.Reads as body-parent-reads
use Rattle.reading.proofs.stored_body.Reads as stored-body-reads
use Rattle.hash.specs.Bytes.{width_of}
use Rattle.hash.proofs.Widths.{width-most}
use Rattle.moves.proofs.first_forcing.Goals as goal

-- src/lib.rt:113:5
pub loop-i-init : goal.loop-i-init
loop-i-init c = let x = c.args in (search rules, turning_first (width_of x.kind) x.store.now (list_ids (width_of x.kind) x.list.now) false x.d _ _)

-- src/lib.rt:115:13
pub shape_of-memo-then-bed_to_move : goal.shape_of-memo-then-bed_to_move
shape_of-memo-then-bed_to_move c = c.bed_to_move.auto.memo ∙ c.loop-i.invariant.1.long

-- src/lib.rt:115:13
pub returns-then-bed_to_move : goal.returns-then-bed_to_move
returns-then-bed_to_move c = found_as c.id_slice-x.ensures (first_found (width-most c.args.kind) c.stored_body-body.ensures c.parent_count-count.ensures c.loop-i.invariant.1 c.body_parent.result c.loop-i-test.true c.body_parent.ensures c.bed_to_move.ensures c.if-bed_to_move.true)

-- src/lib.rt:113:5
pub loop-i-preserved : goal.loop-i-preserved
loop-i-preserved c = (search rules, turning-next c.loop-i.invariant.1 c.body_parent.result c.body_parent.ensures c.bed_to_move.ensures c.if-bed_to_move.false c.bed_to_move.auto.memo)

-- src/lib.rt:106:1
pub shape_of-memo : goal.shape_of-memo
shape_of-memo c = c.loop-i.invariant.1.long

-- src/lib.rt:106:1
pub returns : goal.returns
returns c =
    let e : c.parent_count-count.result ≡ c.loop-i.i = let h = c.loop-i.invariant.0 in omega (arith, h) in
    rw e (found_as c.id_slice-x.ensures (first_ended (width-most c.args.kind) c.stored_body-body.ensures c.parent_count-count.ensures c.loop-i.invariant.1 (let h = c.loop-i.invariant.0 in omega (arith, h))))
