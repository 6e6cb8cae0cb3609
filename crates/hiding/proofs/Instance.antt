-- The premises are met with two lists joined: in document 01's history each commit is readable, has no row, and its parents are of the history and
-- older; each test is computed. Assumes nothing.
use mathlib.Core.Path.{◌≡◌, refl}
use mathlib.Core.Bool.{true}
use mathlib.Core.List.{List, [], ◌∷◌, ◌++◌}
use Rattle.hash.specs.Bytes.{Id, among, bytes_all}
use Rattle.idlist.specs.IdList.{id_list_all}
use Rattle.object.specs.Header.{header_all}
use Rattle.odb.specs.Store.{store_all}
use Rattle.commitgraph.specs.Graph.{graph_all}
use Rattle.walk.specs.Lookup.{world_of}
use Rattle.walk.specs.Opening.{Input, walk_of, list_ids, width_in}
use Rattle.walk.specs.Calls.{walk_all}
use Rattle.walk.specs.Reach.{links}
use Rattle.walk.specs.Demand.{row_generation, pair_at, Premises}
use Rattle.walk.specs.Runs.{names, input, all, names_wide, sample_wide}
use Rattle.walk.specs.Slips.{ids_for}
use Rattle.walk.proofs.Instance.{every, is_good, fit, premises}
use Rattle.hiding.specs.Hiding.{hiding}
use Rattle.hiding.specs.Runs.{eight, JoinedTested}

abbrev history : List Id
history = ids_for (1 ∷ 2 ∷ 3 ∷ 4 ∷ 5 ∷ 6 ∷ 7 ∷ 8 ∷ [])

abbrev both : Input
both = hiding eight (names (5 ∷ []) ++ names (4 ∷ []))

fits_all : every (fit (walk_of both).world history) history ≡ true
unfolding every fit is_good links pair_at row_generation eight input all names_wide ids_for sample_wide bytes_all id_list_all header_all store_all graph_all walk_all
fits_all = refl

tips_in_lem : every (λ x. among x history) (list_ids (width_in both) both.tips) ≡ true
unfolding every eight input all names_wide ids_for bytes_all walk_all
tips_in_lem = refl

hidden_in : every (λ x. among x history) (walk_of both).hidden ≡ true
unfolding every eight input all names_wide ids_for bytes_all walk_all
hidden_in = refl

met : Premises (walk_of both) (list_ids (width_in both) both.tips)
unfolding eight input all names_wide ids_for sample_wide bytes_all id_list_all header_all store_all graph_all walk_all
met = premises (walk_of both) (list_ids (width_in both) both.tips) history (tt, (tt, (tt, (tt, (tt, (tt, (tt, (tt, tt)))))))) tips_in_lem hidden_in fits_all

pub joined_tested : JoinedTested
unfolding JoinedTested eight input all names_wide sample_wide bytes_all id_list_all header_all store_all graph_all walk_all
joined_tested = record { fits = refl; premises = met }
