-- A history whose clocks are wrong: without a graph file its opening is refused, beside its own written file it passes. And histories that have no file;
-- a history with ids of 32 bytes. Assumes nothing.
use Rattle.std.specs.Prelude.{◌≡◌, ℕ, List, [], ◌∷◌, None, Some}
use Rattle.hash.specs.Bytes.{width_of}
use Rattle.hash.specs.declared.Kind.TheVariants.{Sha1, Sha256}
use Rattle.graphplan.specs.Refusing.{refusal_for}
use Rattle.graphwrite.specs.Writing.{file_of}
use Rattle.walk.specs.declared.Sorting.TheVariants.{BreadthFirst}
use Rattle.walk.specs.declared.Refusal.TheVariants.{PartialId, UnknownGraph, PairNotFalling, UnfitStore}
use Rattle.walk.specs.declared.Parents.TheVariants.{All}
use Rattle.walk.specs.Opening.{Input, refusal}
use Rattle.walk.specs.Openings.{head_alone}
use Rattle.walk.specs.Runs.{id_for, store_of, all, lost, store_wide, sample_wide}
use Rattle.walk.specs.Slips.{input_with, two_turns}
use Rattle.reach.specs.Tested.{tested_refusal}
use Rattle.owngraph.specs.OwnGraph.{Passes}

-- 5 at 10 comes from 3 at 20: tip 1, hide 2
unfoldable pub alone : Input
unfolding input_with
alone = input_with two_turns [] (1 ∷ []) (2 ∷ []) (all BreadthFirst)

unfoldable pub beside : Input
unfolding input_with
beside = input_with two_turns (file_of Sha1 two_turns) (1 ∷ []) (2 ∷ []) (all BreadthFirst)

-- 1 from 2, 2 from 1
unfoldable pub circle : List ℕ
unfolding store_wide
circle = store_of (record { name = 1; time = 2; from = 2 ∷ [] } ∷ record { name = 2; time = 1; from = 1 ∷ [] } ∷ [])

-- document 01's sample with ids of 32 bytes, beside this graph file and with these tips
unfoldable pub wide_input : List ℕ → List ℕ → Input
wide_input graph tips = record {
  store = sample_wide (width_of Sha256);
  graph = graph;
  tips = tips;
  hidden = [];
  excluded = [];
  settings = record { sorting = BreadthFirst; parents = All; kind = Sha256 };
}

pub record Instances : Type 0 where
  pub writable : refusal_for (width_of Sha1) two_turns 5 ≡ None
  pub refused-alone : tested_refusal alone ≡ Some PairNotFalling
  pub passes_beside : Passes beside
  pub no-levels : refusal_for (width_of Sha1) circle 2 ≡ Some UnfitStore
  pub parent-absent : refusal_for (width_of Sha1) lost 9 ≡ Some UnfitStore
  -- with ids of 32 bytes: it has a file; a graph file and a list with ids of 20 are refused
  pub wide-writable : refusal_for (width_of Sha256) (sample_wide (width_of Sha256)) 8 ≡ None
  pub narrow_graph : refusal (wide_input head_alone []) ≡ Some UnknownGraph
  pub narrow_list : refusal (wide_input [] (id_for 8)) ≡ Some PartialId
