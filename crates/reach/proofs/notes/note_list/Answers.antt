-- `notes::note_list` meets its contract: after i turns the first i ids of the list are noted. What is left of the list grows shorter. Assumes nothing.
use mathlib.Core.Path.{◌∙◌, ap}
use native.Mathlib.Omega.{arith}
use Prim.Native.Nat.{◌/◌, ◌<◌}
use lib.ListN.{length}
use Rattle.walk.specs.Opening.{list_ids}
use Rattle.walk.proofs.Whole.{length_list}
use Rattle.reading.proofs.IdLists.{list_at, list-width}
use Rattle.reach.proofs.Noting.{listing-first, listing-next, listing-last}
use Rattle.hash.specs.Bytes.{width_of}
use Rattle.reach.proofs.notes.note_list.Goals as goal

pub loop-i-init : goal.loop-i-init
loop-i-init c = let x = c.args in listing-first (width_of x.kind) x.second x.cap x.from _ x.past (list_ids (width_of x.kind) x.list.now)

pub loop-i-preserved : goal.loop-i-preserved
loop-i-preserved c = let b = c.args.list.now in
    let h : c.loop-i.i < length b / width_of c.args.kind = omega (arith, c.ids_in-count.ensures, c.loop-i-test.true) in
    let e = c.nth-id.ensures in
    listing-next c.loop-i.invariant (omega (arith, h, length_list (width_of c.args.kind) b)) (e ∙ list_at (width_of c.args.kind) b c.loop-i.i h) (ap length e ∙ list-width (width_of c.args.kind) b c.loop-i.i h) (record { names = c.note_next-r.auto.names; marks = c.note_next-r.auto.marks; line = c.note_next-r.auto.line }) c.note_next-r.ensures

pub returns : goal.returns
returns c = listing-last c.loop-i.invariant (omega (arith, c.ids_in-count.ensures, c.loop-i-test.false, length_list (width_of c.args.kind) c.args.list.now))
