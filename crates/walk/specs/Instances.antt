-- The premises of the third demand can be met, and what the walk then says: histories without a graph file, with one that lists all commits
-- and agrees (a parent list in EDGE), and with one that lists a part; All and First, breadth order and a time order with a cutoff, each with a
-- hidden tip. Assumes nothing.
use Rattle.std.specs.Prelude.{◌≡◌, List, [], ◌∷◌, length, pos, None, Some}
use Rattle.walk.specs.declared.Sorting.TheVariants.{BreadthFirst}
use Rattle.walk.specs.Opening.{Input, walk_of, list_ids, refusal, width_in}
use Rattle.walk.specs.Next.{Kind, end, handed}
use Rattle.walk.specs.Calls.{answers}
use Rattle.walk.specs.Demand.{Premises}
use Rattle.walk.specs.Runs.{id_for, sample, kinds, out, all, first_only, newest, newest_from}
use Rattle.walk.specs.Slips.{input_with, fork, listing, grown, earlier}

-- none of 2 to 6 applies to the input, it meets the premises, and its answers are of these kinds
pub record Meets (i : Input) (ks : List Kind) : Type 0 where
  pub accepted : refusal i ≡ None
  pub premises : Premises (walk_of i) (list_ids (width_in i) i.tips)
  pub says : kinds (answers i (length ks)) ≡ ks

-- document 01's history: tip 8, hide 5, breadth order; no graph file
unfoldable pub hiding : Input
unfolding input_with
hiding = input_with sample [] (8 ∷ []) (5 ∷ []) (all BreadthFirst)

-- the same: First under a time order, hide 3
unfoldable pub first_hiding : Input
unfolding input_with
first_hiding = input_with sample [] (8 ∷ []) (3 ∷ []) (first_only newest)

-- the fork with its whole graph file, whose first row has its parents from the second on in EDGE: tip 1, hide 2, newest, cutoff 6
unfoldable pub all_listed : Input
unfolding input_with
all_listed = input_with fork listing (1 ∷ []) (2 ∷ []) (all (newest_from 6))

-- a graph file that lists a part: tip 1, hide 2, which has no row
unfoldable pub part_listed : Input
unfolding input_with
part_listed = input_with grown earlier (1 ∷ []) (2 ∷ []) (all BreadthFirst)

pub record Instances : Type 0 where
  pub no-graph : Meets hiding (out 8 ∷ out 6 ∷ out 7 ∷ out 4 ∷ out 2 ∷ end ∷ [])
  pub by_first : Meets first_hiding (out 8 ∷ out 6 ∷ out 5 ∷ end ∷ [])
  pub with_graph : Meets all_listed (
      handed (id_for 1) (Some 2) (Some (pos 9)) ∷ handed (id_for 3) (Some 1) (Some (pos 6)) ∷ handed (id_for 4) (Some 1) (Some (pos 6)) ∷ end ∷ [])
  pub with_part : Meets part_listed (handed (id_for 1) (Some 0x3FFFFFFF) None ∷ end ∷ [])
