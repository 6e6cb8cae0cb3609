-- `opening::read_tips` meets its contract: what the tips from place k on come to, all of them come to. Assumes nothing.
use Rattle.std.specs.Prelude.{Err, Ok, Result}
use Rattle.walk.specs.declared.Refusal.{Refusal}
use mathlib.Core.Path.{◌≡◌, sym, ◌∙◌, ap, subst}
use mathlib.Core.List.{List}
use Prim.Native.Nat.{ℕ, ◌≤◌, ◌-◌, ◌/◌}
use lib.ListN.{length}
use Rattle.hash.specs.Bytes.{Id, width_of}
use Rattle.walk.specs.Opening.{list_ids}
use Rattle.opening.specs.Checks.{TestsTips, no_tip}
use Rattle.opening.proofs.Ids.{ids_from, ids-start, ids_next, ids-end}
use Rattle.opening.proofs.Tips.{one-refused, one-fine}
use borrow.Author.Rules.{rules}
use Rattle.opening.proofs.read_tips.Given as goal

abbrev pub invariant-loop-k : goal.invariant-loop-k
invariant-loop-k l = (l.k ≤ l.n) × (l.n ≡ length l.tips / width_of l.kind)
    × ((r : Result (Unit {0}) Refusal) → TestsTips (width_of l.kind) l.store (list_ids (width_of l.kind) l.excluded) (ids_from (width_of l.kind) l.n l.k l.tips) r → TestsTips (width_of l.kind) l.store (list_ids (width_of l.kind) l.excluded) (list_ids (width_of l.kind) l.tips) r)

abbrev pub decreases-loop-k : goal.decreases-loop-k
decreases-loop-k l = l.n - l.k
