-- `wire::put` meets its contract: after k turns the first k words stand at the start and all else is as it was. Assumes nothing.
use borrow.Author.Rules.{rules}
use mathlib.Core.Path.{◌≡◌, sym, ◌∙◌, ap}
use Prim.Native.Nat.{ℕ, ◌≤◌, ◌-◌, ◌+◌, suc}
use native.Mathlib.Omega.{arith}
use mathlib.Core.List.{List, ◌++◌}
use lib.ListN.{length, drop, set, get_or}
use lib.Seq.{paste, paste-zero, paste-suc, length-paste, take_all}
use Rattle.hash.proofs.Bytes.{set_down-fits, set_down-not}
use Rattle.wire.proofs.put.Given as goal

abbrev pub invariant-loop-k : goal.invariant-loop-k
invariant-loop-k l = (l.k ≤ length l.x) × (l.out ≡ paste l.initial.out 0 l.x l.k)

abbrev pub decreases-loop-k : goal.decreases-loop-k
decreases-loop-k l = length l.x - l.k
