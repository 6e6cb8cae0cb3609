-- `odb::numbered::entry_bytes` meets its contract: the body of one of the standing entries is looked up as `locate` looks it up. Assumes nothing.
use borrow.Author.Rules.{rules}
use mathlib.Core.Path.{◌≡◌, refl, sym, ◌∙◌, ap}
use native.Mathlib.Omega.{arith}
use Prim.Native.Nat.{◌+◌, ◌*◌, ◌≤◌, ◌<◌}
use lib.ListN.{length}
use Rattle.hash.specs.Bytes.{width_of}
use Rattle.odb.specs.Store.{start, entry_size, standing_entries}
use Rattle.odb.proofs.Store.{counted-within}
use Rattle.odb.specs.Lookup.{part_of}
use Rattle.odb.proofs.Nth.{past-body, own_body}
use Rattle.odb.proofs.numbered.entry_bytes.Goals as goal

pub returns-then-count-k : goal.returns-then-count-k
returns-then-count-k c = let x = c.args in past-body (width_of x.kind) x.store.now x.k (rw c.count.ensures at c.if-count-k.true)

pub entry_body-requires : goal.entry_body-requires
entry_body-requires c = let x = c.args in
    let h : x.k < standing_entries (width_of x.kind) x.store.now = omega (arith, c.count.ensures, c.if-count-k.false) in
    (c.entries_start-base.ensures.0, rw c.width.ensures.0 (omega (arith, c.entries_start-base.ensures.0, counted-within (width_of x.kind) x.store.now x.k h)))

pub returns : goal.returns
returns c = let x = c.args in
    let h : x.k < standing_entries (width_of x.kind) x.store.now = omega (arith, c.count.ensures, c.if-count-k.false) in
    c.body.ensures ∙ ap (part_of x.store.now) (rw c.width.ensures.0 at c.entry_body.ensures) ∙ own_body (width_of x.kind) x.store.now x.k h
