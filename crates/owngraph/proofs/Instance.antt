-- The instances compute; that the history with wrong clocks passes beside its own file is the theorem's, whose premises it meets. Assumes nothing.
use Rattle.std.specs.Prelude.{None, Some}
use mathlib.Core.Path.{◌≡◌, refl, sym, ◌∙◌}
use mathlib.Core.Logic.{⊎_elim}
use mathlib.Core.Bool.{Bool, true, false, cond}
use mathlib.Core.List.Memᴰ
use mathlib.Core.List.{List, [], ◌∷◌}
use Prim.Native.Nat.{ℕ, zero, suc, ◌<◌}
use native.Mathlib.Omega.{arith}
use lib.ListN.{get_or}
use lib.Dec.{ltb}
use borrow.Author.Tests.{ltb-true}
use Rattle.hash.specs.Bytes.{Id, bytes_all, width_of}
use Rattle.hash.specs.declared.Kind.TheVariants.{Sha1, Sha256}
use Rattle.hash.proofs.Tests.{guard_test, guarded}
use Rattle.idlist.specs.IdList.{id_list_all}
use Rattle.object.specs.Header.{header_all}
use Rattle.object.specs.Read.{read_all}
use Rattle.odb.specs.Store.{store_all, standing_entries}
use Rattle.odb.specs.Lookup.{lookup_all}
use Rattle.commitgraph.specs.Graph.{graph_all}
use Rattle.levels.specs.Levels.{levels_all}
use Rattle.levels.specs.StoreGraph.{store_graph_all}
use Rattle.graphplan.specs.StoreRows.{rows_all}
use Rattle.graphplan.specs.Refusing.{refusal_for}
use Rattle.graphwrite.specs.Writing.{Bytes, file_of, writing_all}
use Rattle.walk.specs.declared.Refusal.TheVariants.{PartialId, UnknownGraph, PairNotFalling, UnfitStore}
use Rattle.walk.specs.Calls.{walk_all}
use Rattle.walk.specs.Opening.{refusal}
use Rattle.walk.specs.Openings.{head_alone}
use Rattle.walk.specs.Reach.{Mem, links}
use Rattle.walk.specs.Demand.{row_generation, pair_at}
use Rattle.walk.specs.Universe.{parents_up_to, store_parents}
use Rattle.walk.specs.Runs.{id_for, id_wide, all, lost, names_wide, sample_wide}
use Rattle.walk.specs.Slips.{input_with, two_turns}
use Rattle.reach.specs.Search.{noted, reached_from, reach_list}
use Rattle.reach.specs.Tested.{each, is_good, readable_in, same_ids, same_time, same_seconds, row_agrees, agrees_in, falls_in, judged, tested_over, tested_refusal}
use Rattle.owngraph.specs.OwnGraph.{Held, OpeningOf}
use Rattle.owngraph.specs.Instances.{alone, beside, circle, wide_input, Instances}
use Rattle.owngraph.proofs.Passed.{own-file}

-- ---- bytes, by a test

unfoldable all_small : List ℕ → Bool
all_small [] = true
all_small (x ∷ xs) = let r = all_small xs in cond (ltb x 256) r false

small-each : (b : List ℕ) → all_small b ≡ true → (k : ℕ) → get_or b k 0 < 256
unfolding all_small
small-each [] e k = omega arith
small-each (x ∷ xs) e zero = ltb-true x 256 (guard_test (ltb x 256) (all_small xs) e)
small-each (x ∷ xs) e (suc k) = small-each xs (guarded (ltb x 256) (all_small xs) e) k

history_bytes : Bytes two_turns
unfolding all_small two_turns bytes_all
history_bytes = record { each = small-each two_turns refl }

-- ---- the opening

history_many : standing_entries (width_of Sha1) two_turns ≡ 5
unfolding two_turns bytes_all store_all
history_many = refl

first-held : Held (width_of Sha1) two_turns (id_for 1)
unfolding two_turns bytes_all id_list_all store_all lookup_all
first-held = record { entry = 0; below = omega (arith, history_many); is = refl }

second-held : Held (width_of Sha1) two_turns (id_for 2)
unfolding two_turns bytes_all id_list_all store_all lookup_all
second-held = record { entry = 1; below = omega (arith, history_many); is = refl }

one-held : (x y : Id) → Held (width_of Sha1) two_turns y → Mem x (y ∷ []) → Held (width_of Sha1) two_turns x
one-held x y h m = ⊎_elim (λ e. record { entry = h.entry; below = h.below; is = h.is ∙ sym e }) (λ n. absurd (Memᴰ.not-nil n)) (Memᴰ.cases_cons m)

writable' : refusal_for (width_of Sha1) two_turns 5 ≡ None
unfolding two_turns bytes_all id_list_all header_all read_all store_all lookup_all levels_all store_graph_all rows_all writing_all
writable' = refl

opening_of : OpeningOf Sha1 two_turns (file_of Sha1 two_turns) beside
unfolding beside input_with all names_wide walk_all bytes_all
opening_of =
    record {
      same_kind = refl;
      store = refl;
      graph = refl;
      tips = record { few = omega arith; whole = refl };
      hidden = record { few = omega arith; whole = refl };
      excluded = record { few = omega arith; whole = refl };
      tips-held = λ x m. one-held x (id_for 1) first-held m;
      hidden_held = λ x m. one-held x (id_for 2) second-held m;
    }

refused_alone' : tested_refusal alone ≡ Some PairNotFalling
unfolding alone input_with all two_turns bytes_all id_list_all header_all store_all graph_all walk_all links row_generation pair_at parents_up_to store_parents noted reached_from reach_list each is_good readable_in same_ids same_time same_seconds row_agrees agrees_in falls_in judged tested_over tested_refusal
refused_alone' = refl

no_levels' : refusal_for (width_of Sha1) circle 2 ≡ Some UnfitStore
unfolding circle bytes_all id_list_all header_all read_all store_all lookup_all levels_all store_graph_all rows_all writing_all
no_levels' = refl

parent_absent' : refusal_for (width_of Sha1) lost 9 ≡ Some UnfitStore
unfolding lost bytes_all id_list_all header_all read_all store_all lookup_all levels_all store_graph_all rows_all writing_all
parent_absent' = refl

wide_writable' : refusal_for (width_of Sha256) (sample_wide (width_of Sha256)) 8 ≡ None
unfolding sample_wide bytes_all id_list_all header_all read_all store_all lookup_all levels_all store_graph_all rows_all writing_all
wide_writable' = refl

narrow_graph' : refusal (wide_input head_alone []) ≡ Some UnknownGraph
unfolding wide_input head_alone sample_wide bytes_all id_list_all header_all store_all graph_all walk_all
narrow_graph' = refl

narrow_list' : refusal (wide_input [] (id_for 8)) ≡ Some PartialId
unfolding wide_input id_wide sample_wide bytes_all id_list_all header_all store_all graph_all walk_all
narrow_list' = refl

pub instances : Instances
instances = record {
  writable = writable';
  refused-alone = refused_alone';
  passes_beside = own-file Sha1 two_turns 5 history_bytes writable' beside opening_of;
  no-levels = no_levels';
  parent-absent = parent_absent';
  wide-writable = wide_writable';
  narrow_graph = narrow_graph';
  narrow_list = narrow_list';
}
