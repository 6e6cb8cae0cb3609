-- What a tested opening says of small histories, each a theorem by computation (document 02, card 1). Assumes nothing.
use Rattle.std.specs.Prelude.{◌≡◌, refl, [], ◌∷◌, None, Some}
use Rattle.hash.specs.Bytes.{bytes_all}
use Rattle.idlist.specs.IdList.{id_list_all}
use Rattle.object.specs.Header.{header_all}
use Rattle.odb.specs.Store.{store_all}
use Rattle.commitgraph.specs.Graph.{graph_all}
use Rattle.walk.specs.declared.Sorting.TheVariants.{BreadthFirst}
use Rattle.walk.specs.declared.Refusal.TheVariants.{UnreadableReach, GraphAtOdds, PairNotFalling}
use Rattle.walk.specs.Calls.{walk_all}
use Rattle.walk.specs.Reach.{links}
use Rattle.walk.specs.Demand.{row_generation, pair_at}
use Rattle.walk.specs.Universe.{parents_up_to, store_parents}
use Rattle.walk.specs.Runs.{all, lost}
use Rattle.walk.specs.Slips.{input_with, fork, listing, stale, cut, two_turns}
use Rattle.walk.specs.Instances.{all_listed}
use Rattle.reach.specs.Search.{noted, reached_from, reach_list}
use Rattle.reach.specs.Tested.{each, is_good, readable_in, same_ids, same_time, same_seconds, row_agrees, agrees_in, falls_in, judged, tested_over, tested_refusal}

pub record Instances : Type 0 where
  -- the fork with its whole graph file, a hidden tip, a cutoff
  pub accepted : tested_refusal all_listed ≡ None
  -- a parent that the store lacks
  pub unreadable : tested_refusal (input_with lost [] (1 ∷ []) [] (all BreadthFirst)) ≡ Some UnreadableReach
  -- only a hidden tip reaches it
  pub hidden-unreadable : tested_refusal (input_with lost [] [] (1 ∷ []) (all BreadthFirst)) ≡ Some UnreadableReach
  -- other seconds in the graph file; a corrupt list there
  pub other-seconds : tested_refusal (input_with fork stale (1 ∷ []) [] (all BreadthFirst)) ≡ Some GraphAtOdds
  pub corrupt-list : tested_refusal (input_with fork cut (1 ∷ []) [] (all BreadthFirst)) ≡ Some GraphAtOdds
  -- a parent that is younger than its child
  pub not-falling : tested_refusal (input_with two_turns [] (1 ∷ []) [] (all BreadthFirst)) ≡ Some PairNotFalling

pub instances : Instances
unfolding input_with all_listed all fork listing stale cut two_turns lost bytes_all id_list_all header_all store_all graph_all walk_all links row_generation pair_at parents_up_to store_parents noted reached_from reach_list each is_good readable_in same_ids same_time same_seconds row_agrees agrees_in falls_in judged tested_over tested_refusal
instances = record { accepted = refl; unreadable = refl; hidden-unreadable = refl; other-seconds = refl; corrupt-list = refl; not-falling = refl }
