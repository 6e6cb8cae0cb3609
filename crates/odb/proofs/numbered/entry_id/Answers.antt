-- `odb::numbered::entry_id` meets its contract: one of the standing entries stands in the file, at its place. Assumes nothing.
use borrow.Author.Rules.{rules}
use mathlib.Core.Path.{◌≡◌, refl, sym, ◌∙◌, ap}
use native.Mathlib.Omega.{arith}
use Prim.Native.Nat.{◌+◌, ◌*◌, ◌≤◌, ◌<◌}
use lib.ListN.{length}
use Rattle.hash.specs.Bytes.{width_of}
use Rattle.odb.specs.Store.{start, entry_size, standing_entries}
use Rattle.odb.proofs.Store.{counted-within}
use Rattle.odb.proofs.Nth.{past-id, own-id}
use Rattle.odb.proofs.numbered.entry_id.Goals as goal

pub returns-then-count-k : goal.returns-then-count-k
returns-then-count-k c = let x = c.args in past-id (width_of x.kind) x.store.now x.k (rw c.count.ensures at c.if-count-k.true)

pub overflow_mul-step : goal.overflow_mul-step
overflow_mul-step c = let x = c.args in
    let h : x.k < standing_entries (width_of x.kind) x.store.now = omega (arith, c.count.ensures, c.if-count-k.false) in
    rw c.width-step.ensures.0 (omega (arith, counted-within (width_of x.kind) x.store.now x.k h))

pub overflow_add-entries_start : goal.overflow_add-entries_start
overflow_add-entries_start c = let x = c.args in
    let h : x.k < standing_entries (width_of x.kind) x.store.now = omega (arith, c.count.ensures, c.if-count-k.false) in
    rw c.width-step.ensures.0 (omega (arith, c.entries_start.ensures.0, counted-within (width_of x.kind) x.store.now x.k h))

pub returns : goal.returns
returns c = let x = c.args in
    let h : x.k < standing_entries (width_of x.kind) x.store.now = omega (arith, c.count.ensures, c.if-count-k.false) in
    (rw (c.width-step.ensures.0, c.entries_start.ensures.0) at c.id_at.ensures) ∙ own-id (width_of x.kind) x.store.now x.k h
