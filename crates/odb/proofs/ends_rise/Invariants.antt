-- `odb::ends_rise` meets its contract. The loop's invariant: the first k ends never fall, and the last of them is the start of the next body.
-- The measure is the number of entries left. Assumes nothing.
use mathlib.Core.Path.{◌≡◌, refl, sym, ◌∙◌}
use Prim.Native.Nat.{◌-◌, ◌+◌, ◌≤◌}
use mathlib.Core.Bool.{true}
use native.Mathlib.Omega.{arith}
use native.Mathlib.Numerals.{add-one}
use Rattle.hash.proofs.Widths.{apart}
use Rattle.odb.specs.Store.{entry_size, body_start, ends_rise}
use Rattle.odb.proofs.Store.{ends-step}
use Rattle.odb.proofs.Check.{end_falls}
use borrow.Author.Rules.{rules}
use Rattle.odb.proofs.ends_rise.Given as goal

abbrev pub invariant-loop-k : goal.invariant-loop-k
invariant-loop-k l = (l.k ≤ l.n) × (ends_rise l.w l.store l.k ≡ true) × (l.last ≡ body_start l.w l.store l.k)

abbrev pub decreases-loop-k : goal.decreases-loop-k
decreases-loop-k l = l.n - l.k
