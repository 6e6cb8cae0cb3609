-- `reading::is_among` meets its contract: the id is none of those passed, so whether it is among all is whether it is among the rest. Assumes nothing.
use borrow.Author.Rules.{rules}
use mathlib.Core.Path.{◌≡◌, sym, ◌∙◌, ap}
use Prim.Native.Nat.{◌-◌, ◌/◌, ◌≤◌}
use lib.ListN.{length}
use Rattle.hash.specs.Bytes.{eq_id, among, width_of}
use Rattle.walk.specs.Opening.{list_ids}
use Rattle.reading.proofs.IdLists.{from_id, among-start, among-here, among_later, among_none}
use Rattle.reading.proofs.ids.is_among.Given as goal

abbrev pub invariant-loop-k : goal.invariant-loop-k
invariant-loop-k l = (l.n ≡ length l.list / width_of l.kind) × (l.k ≤ l.n) × (among l.id (list_ids (width_of l.kind) l.list) ≡ among l.id (from_id (width_of l.kind) l.list l.n l.k))

abbrev pub decreases-loop-k : goal.decreases-loop-k
decreases-loop-k l = l.n - l.k
