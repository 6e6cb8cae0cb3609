-- `hash::compare` meets its contract: up to place i the two agree, so the comparison is that of what is left; the first eight bytes that
-- differ decide it, and where one of the two has fewer than eight, the comparison of the rest. Assumes nothing.
use mathlib.Core.Path.{◌≡◌}
use Prim.Native.Nat.{◌≤◌, ◌-◌}
use lib.ListN.{drop}
use Rattle.hash.specs.Bytes.{compare_id}
use Rattle.hash.proofs.compare.Given as goal

abbrev pub invariant-loop-i : goal.invariant-loop-i
invariant-loop-i l = (l.i ≤ l.n) × (compare_id l.a l.b ≡ compare_id (drop l.i l.a) (drop l.i l.b))

abbrev pub decreases-loop-i : goal.decreases-loop-i
decreases-loop-i l = l.n - l.i
