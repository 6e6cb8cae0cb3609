-- `levels::greatest` meets its contract: after i parents the greatest of i levels is held. Assumes nothing.
use mathlib.Core.Path.{◌≡◌}
use mathlib.Core.List.{List}
use Prim.Native.Nat.{ℕ, ◌-◌, ◌≤◌, ◌<◌}
use lib.ListN.{get_or}
use Rattle.hash.specs.Bytes.{width_of}
use Rattle.levels.specs.Levels.{Graph, most}
use Rattle.levels.specs.StoreGraph.{store_graph}
use Rattle.levels.specs.Search.{tag}
use Rattle.levels.proofs.greatest.Given as goal

abbrev pub level_on : Graph → List ℕ → ℕ → ℕ → ℕ
level_on g levels k j = get_or levels (g.parent k j) 0 - tag

abbrev pub invariant-loop-i : goal.invariant-loop-i
invariant-loop-i l = let g = store_graph (width_of l.kind) l.store l.n in
    (l.i ≤ l.c) × (l.m < 4294967296) × (l.c ≤ 256 → l.c ≤ g.count l.k → l.m ≡ most (level_on g l.levels l.k) l.i)

abbrev pub decreases-loop-i : goal.decreases-loop-i
decreases-loop-i l = l.c - l.i
