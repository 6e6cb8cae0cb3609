-- Why the premises are asked for, and what hiding does to the order: runs, each a theorem by computation. Assumes nothing.
use Rattle.std.specs.Prelude.{◌≡◌, refl, false, List, [], ◌∷◌, ◌++◌}
use Rattle.hash.specs.Bytes.{bytes_all, width_of}
use Rattle.hash.specs.declared.Kind.TheVariants.{Sha1}
use Rattle.idlist.specs.IdList.{id_list_all}
use Rattle.object.specs.Header.{header_all}
use Rattle.odb.specs.Store.{store_all}
use Rattle.commitgraph.specs.Graph.{graph_all}
use Rattle.walk.specs.declared.Sorting.TheVariants.{BreadthFirst}
use Rattle.walk.specs.Lookup.{world_of, lt_pair}
use Rattle.walk.specs.Opening.{Input}
use Rattle.walk.specs.Next.{end}
use Rattle.walk.specs.Calls.{walk_all}
use Rattle.walk.specs.Demand.{row_generation, pair_at}
use Rattle.walk.specs.Runs.{id_for, names, input, says, out, out_at, all, newest, sample, id_wide, sample_wide}
use Rattle.walk.specs.Slips.{lent_twice}
use Rattle.hiding.specs.Hiding.{hiding, Tested}

-- ---- clocks that do not fall

pub record Needed : Type 0 where
  -- 2 is a parent of 4, at 20 and at 6: the pair does not fall, and a tested opening says 15
  pub rises : lt_pair (pair_at (world_of (width_of Sha1) lent_twice []) (id_for 2)) (pair_at (world_of (width_of Sha1) lent_twice []) (id_for 4)) ≡ false
  -- hiding 5 leaves 1 and 2, though 5 reaches 2; the list joined to itself, which is the hidden tip lent twice, leaves 1 alone
  pub either : says lent_twice (1 ∷ []) (5 ∷ []) [] (all BreadthFirst) 4 ≡ out 1 ∷ out 2 ∷ end ∷ end ∷ []
  pub joined : says lent_twice (1 ∷ []) (5 ∷ 5 ∷ []) [] (all BreadthFirst) 3 ≡ out 1 ∷ end ∷ end ∷ []

pub needed : Needed
unfolding says all lent_twice pair_at row_generation id_wide bytes_all id_list_all header_all store_all graph_all walk_all
needed = record { rises = refl; either = refl; joined = refl }

-- ---- clocks that fall

-- document 01's history, tip 8, breadth order
unfoldable pub eight : Input
unfolding input
eight = input sample (8 ∷ []) [] [] (all BreadthFirst)

-- the premises are met with two lists joined: hide 5, hide 4
unfoldable pub JoinedTested : Type 0
JoinedTested = Tested (hiding eight (names (5 ∷ []) ++ names (4 ∷ [])))

pub record Falling : Type 0 where
  -- hiding 5, hiding 4, and hiding both, either way round: what is left by both stands in the order of either list
  pub first : says sample (8 ∷ []) (5 ∷ []) [] (all BreadthFirst) 6 ≡ out 8 ∷ out 6 ∷ out 7 ∷ out 4 ∷ out 2 ∷ end ∷ []
  pub second : says sample (8 ∷ []) (4 ∷ []) [] (all BreadthFirst) 6 ≡ out 8 ∷ out 6 ∷ out 7 ∷ out 5 ∷ out 3 ∷ end ∷ []
  pub both : says sample (8 ∷ []) (5 ∷ 4 ∷ []) [] (all BreadthFirst) 4 ≡ out 8 ∷ out 6 ∷ out 7 ∷ end ∷ []
  pub swapped : says sample (8 ∷ []) (4 ∷ 5 ∷ []) [] (all BreadthFirst) 4 ≡ out 8 ∷ out 6 ∷ out 7 ∷ end ∷ []
  pub newest-first : says sample (8 ∷ []) (5 ∷ 4 ∷ []) [] (all newest) 4 ≡ out_at 8 8 ∷ out_at 7 7 ∷ out_at 6 6 ∷ end ∷ []

pub falling : Falling
unfolding says all sample_wide bytes_all id_list_all header_all store_all graph_all walk_all
falling = record { first = refl; second = refl; both = refl; swapped = refl; newest-first = refl }
