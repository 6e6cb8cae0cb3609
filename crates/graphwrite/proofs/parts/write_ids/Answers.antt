-- `graphwrite::parts::write_ids` meets its contract: after k ids the first k parts stand there. Assumes nothing.
use mathlib.Core.Path.{refl, ◌∙◌, ap}
use Prim.Native.Nat.{ℕ, ◌+◌, ◌*◌, ◌≤◌}
use native.Mathlib.Omega.{arith}
use lib.ListN.{length}
use Rattle.hash.specs.Bytes.{width_of}
use borrow.Author.Rules.{rules}
use Rattle.hash.proofs.Widths.{apart}
use Rattle.graphfile.specs.GraphFile.{ids_in}
use Rattle.graphplan.specs.StoreRows.{rows_of}
use Rattle.graphbytes.proofs.Fill.{fill_none, fill_next, fill_all}
use Rattle.graphplan.proofs.Wides.{wide-ids, id-part, ids-many}
use Rattle.graphwrite.proofs.parts.write_ids.Goals as goal

pub loop-k-init : goal.loop-k-init
loop-k-init c = let x = c.args in (omega arith, omega arith, refl, fill_none x.out.now x.from (ids_in (rows_of (width_of x.kind) x.store.now)) (omega (arith, c.requires.1)))

pub overflow_add-p : goal.overflow_add-p
overflow_add-p c = let x = c.args in
    let w = width_of x.kind in
    let t = c.loop-k-test.true in
    let f : c.loop-k.p + c.width-w.result ≤ length x.out.now = omega (arith, c.loop-k.invariant.1, c.width-w.ensures.0, apart w t, c.requires.1) in
    search rules

pub loop-k-preserved : goal.loop-k-preserved
loop-k-preserved c = let x = c.args in
    let w = width_of x.kind in
    let t = c.loop-k-test.true in
    let g = ids-many w x.store.now x.n c.requires.0 in (
      omega arith,
      omega (arith, c.loop-k.invariant.1, c.width-w.ensures.0),
      c.set_down.auto.out ∙ c.loop-k.invariant.2,
      fill_next w c.loop-k.p _ (wide-ids w x.store.now x.n c.requires.0) (omega (arith, g)) (omega (arith, ap (λ (y : ℕ). w * y) g, c.requires.1)) c.loop-k.invariant.3 c.set_down.ensures c.loop-k.invariant.1 (c.entry_id.ensures ∙ id-part w x.store.now x.n c.requires.0 c.loop-k.k t),
    )

pub shape_of-out : goal.shape_of-out
shape_of-out c = c.loop-k.invariant.2

pub returns : goal.returns
returns c = let x = c.args in
    fill_all c.loop-k.invariant.3 (omega (arith, ids-many (width_of x.kind) x.store.now x.n c.requires.0, c.loop-k-test.false))
