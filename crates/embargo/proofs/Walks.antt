-- A walk is a function of each id's header and row, of the places and of the opening's refusals, and all of these are the same: so are the opening,
-- every state and every answer. Assumes nothing.
use Rattle.std.specs.Prelude.{None, Option, Some}
use mathlib.Core.Path.{◌≡◌, refl, sym, ap, ◌∙◌}
use mathlib.Core.Bool.{Bool, true, cond, ◌&&◌}
use mathlib.Core.List.{List, []}
use Prim.Native.Nat.{ℕ, zero, suc, ◌+◌, ◌*◌, ◌/◌}
use lib.ListN.{length}
use lib.Dec.{leb}
use Rattle.hash.specs.Bytes.{Id, if_some}
use Rattle.object.specs.Header.{parent_size}
use Rattle.odb.specs.Store.{store_is_ok}
use Rattle.commitgraph.specs.Graph.{graph_find, graph_count}
use Rattle.walk.specs.declared.Refusal.{Refusal}
use Rattle.walk.specs.declared.Refusal.TheVariants.{BufferTooSmall}
use Rattle.walk.specs.Lookup.{World, no_row, row_at, world_of}
use Rattle.walk.specs.State.{Walk, empty_state}
use Rattle.walk.specs.Opening.{Input, width_in, list_ids, parents_room, P, walk_of, sizes_ok, whole_ids, refusal, Lengths, room_for, closed, distinct, tips_in, open_tips, open_or, open_walk}
use Rattle.walk.specs.Next.{next}
use Rattle.walk.specs.Calls.{state_of, state_after, answer_on, answer_at_call, answers_from, answers}
use Rattle.embargo.specs.Embargo.{DifferOnlyInFeed}
use Rattle.embargo.specs.Outside.{over, SameWalk}
use Rattle.embargo.proofs.Worlds.{header-found, both-good}

module _ (i : Input) (es : List Id) (a b : List ℕ) (d : DifferOnlyInFeed (width_in i) es a b) where
  pub world_same : (g : List ℕ) → world_of (width_in i) a g ≡ world_of (width_in i) b g
  unfolding world_of
  world_same g = λ j. record {
    graph = λ x. if_some (graph_find (width_in i) g x) no_row (λ p. row_at (width_in i) g p);
    store = λ x. header-found (width_in i) es a b d x j;
  }

  pub places_same : P (over i a) ≡ P (over i b)
  unfolding P
  places_same = λ j. length i.tips / width_in i + length i.hidden / width_in i + d.same_length j / parent_size (width_in i) + graph_count i.graph

  walk_same : walk_of (over i a) ≡ walk_of (over i b)
  unfolding walk_of
  walk_same = λ j. record {
    world = world_same i.graph j;
    settings = i.settings;
    excluded = list_ids (width_in i) i.excluded;
    hidden = list_ids (width_in i) i.hidden;
    fuel = 4 * places_same j;
  }

  refusal-same : refusal (over i a) ≡ refusal (over i b)
  unfolding refusal sizes_ok whole_ids
  refusal-same = rw (d.same_length, d.good, both-good (width_in i) es a b d)

  tips-same : (room : Bool) → open_tips (over i a) room ≡ open_tips (over i b) room
  unfolding open_tips
  tips-same room = λ j. cond room (tips_in (walk_same j) (distinct [] (walk_same j).excluded (list_ids (width_in i) i.tips)) empty_state) (closed BufferTooSmall)

  or_same : (room : Bool) (o : Option Refusal) → open_or (over i a) room o ≡ open_or (over i b) room o
  unfolding open_or
  or_same room None = tips-same room
  or_same room (Some r) = refl

  opening-same : (room : Bool) → open_walk (over i a) room ≡ open_walk (over i b) room
  unfolding open_walk
  opening-same room = or_same room (refusal (over i a)) ∙ ap (open_or (over i b) room) refusal-same

  state-same : (k : ℕ) → state_after (over i a) k ≡ state_after (over i b) k
  unfolding state_after
  state-same zero = ap state_of (opening-same true)
  state-same (suc k) = λ j. (next (walk_same j) (state-same k j)).state

  pub same-walk : SameWalk (over i a) (over i b)
  unfolding answer_at_call answers
  same-walk = record {
    places = places_same;
    opening = opening-same;
    state-after = state-same;
    answer_at = λ k. λ j. answer_on (walk_same j) (state-same k j) (opening-same true j);
    all-answers = λ k. λ j. answers_from (walk_same j) k (opening-same true j);
  }

  -- room for the one is room for the other
  pub room-same : (l : Lengths) → room_for (over i a) l ≡ room_for (over i b) l
  unfolding room_for
  room-same l = λ j.
      leb (width_in i * places_same j) l.names && leb (places_same j) l.marks && leb (places_same j) l.levels && leb (places_same j) l.times
      && leb (5 * places_same j) l.line && leb (parents_room (width_in i)) l.parents
