-- The proof of `all_readable`, which calls itself. The measure is the steps left. What the memo does not say is found parent by parent with one step
-- fewer, and noted. Assumes nothing.
use mathlib.Core.Path.{◌≡◌, refl, sym, ◌∙◌}
use native.Mathlib.Omega.{arith}
use borrow.Author.Rules.{rules}
use Prim.Native.Nat.{◌-◌, ◌≤◌}
use Rattle.withinreach.proofs.Reading.{Stepping, stepping_first, stepping_next, read_as, read_known, read-not, read-still, read_found, read-ended}
use Rattle.hash.specs.Bytes.{width_of}
use Rattle.hash.proofs.Widths.{width-most}
use Rattle.withinreach.proofs.+all_readable.Goals as goal

pub returns-then-known-ne0 : goal.returns-then-known-ne0
returns-then-known-ne0 t c = read_as c.id_slice-x.ensures (read_known _ _ c.count-n.ensures _ c.entry_of-k.ensures _ c.recall-known.ensures c.if-known-ne0.true)

pub returns-in_default : goal.returns-in_default
returns-in_default t c = read_as c.id_slice-x.ensures (read-not _ _ c.count-n.ensures _ c.entry_of-k.ensures _ c.stored_body-body.ensures (λ h e. c.in_default.not-Ok h (c.readable.ensures ∙ e)))

pub returns-then-d-eq0 : goal.returns-then-d-eq0
returns-then-d-eq0 t c = read_as c.id_slice-x.ensures (read-still _ _ c.count-n.ensures _ c.entry_of-k.ensures _ (width-most c.args.kind) c.stored_body-body.ensures _ _ (sym c.readable.ensures ∙ c.in-Ok.is) c.if-d-eq0.true c.note.ensures)

pub loop-i-init : goal.loop-i-init
loop-i-init t c = (search rules, stepping_first (width_of c.args.kind) c.args.store.now (c.args.d - 1) _ _)

pub returns-then-not-all_readable : goal.returns-then-not-all_readable
returns-then-not-all_readable t c = read_as c.id_slice-x.ensures (read_found _ _ c.count-n.ensures _ c.entry_of-k.ensures _ (width-most c.args.kind) c.stored_body-body.ensures _ _ (sym c.readable.ensures ∙ c.in-Ok.is) c.if-d-eq0.false c.loop-i.invariant.1 c.body_parent.result c.loop-i-test.true c.body_parent.ensures c.all_readable.ensures c.if-not-all_readable.true c.note-then-not-all_readable.ensures)

pub loop-i-preserved : goal.loop-i-preserved
loop-i-preserved t c = (search rules, stepping_next c.body_parent.result c.loop-i.invariant.1 c.body_parent.ensures c.all_readable.ensures c.if-not-all_readable.false c.all_readable.auto.memo)

pub returns : goal.returns
returns t c = read_as c.id_slice-x.ensures (read-ended _ _ c.count-n.ensures _ c.entry_of-k.ensures _ (width-most c.args.kind) c.stored_body-body.ensures _ _ (sym c.readable.ensures ∙ c.in-Ok.is) c.if-d-eq0.false c.loop-i.invariant.1 c.loop-i-test.false c.note-2.ensures)
