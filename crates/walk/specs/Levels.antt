-- Card 6: "If any row has level 0, no level of that file is used: pairs take 0xFFFFFFFF and listings show none." Assumes nothing.
use Rattle.std.specs.Prelude.{ℕ, ◌<◌, ◌≡◌, List, ℤ, None, Option}
use Rattle.hash.specs.Bytes.{Id}
use Rattle.commitgraph.specs.Graph.{graph_count, places_of, stated_level, generation, no_generation}
use Rattle.walk.specs.Lookup.{Pair, good, read}
use Rattle.walk.specs.Demand.{pair_at}
use Rattle.walk.specs.Opening.{Input, walk_of, width_in}
use Rattle.walk.specs.Next.{handed}
use Rattle.walk.specs.Calls.{answer_at_call}

-- the level that row p of the graph file g states
abbrev pub stated : ℕ → List ℕ → ℕ → ℕ
stated width g p = stated_level width g (places_of g) p

-- a row has level 0, whether or not anything reaches it
pub record ZeroRow (width : ℕ) (g : List ℕ) : Type 0 where
  pub position : ℕ
  pub below : position < graph_count g
  pub zero : stated width g position ≡ 0

-- no level is used: in the pairs of the third demand, in those that painting reads, and in the answer of any call
pub record NoLevels (i : Input) : Type 0 where
  pub pairs : (x : Id) → (pair_at (walk_of i).world x).generation ≡ no_generation
  pub painted : (x : Id) (ps : List Id) (p : Pair) → read (walk_of i).world x ≡ good ps p → p.generation ≡ no_generation
  pub shown : (k : ℕ) (x : Id) (l : Option ℕ) (t : Option ℤ) → (answer_at_call i k).kind ≡ handed x l t → l ≡ None

-- one row with level 0 is enough for that; where there is none, each row's level is the one that it states
pub record NeverComputed (i : Input) : Type 0 where
  pub none_used : ZeroRow (width_in i) i.graph → NoLevels i
  pub all_used : (ZeroRow (width_in i) i.graph → ⊥) → (p : ℕ) → generation (width_in i) i.graph p ≡ stated (width_in i) i.graph p
