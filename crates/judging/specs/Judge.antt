-- One commit that is readable in the store, beside its row in the commit-graph file (document 02, card 1). Assumes nothing.
use Rattle.std.specs.Prelude.{ℕ, ◌≡◌, Bool, true, false, ◌&&◌, ◌||◌, List, map, length, ℤ, None, Option, Some}
use Rattle.hash.specs.Bytes.{Id}
use Rattle.date.specs.declared.Stamp.{Stamp}
use Rattle.object.specs.Header.{header}
use Rattle.object.specs.Read.{reading_of, readable_as}
use Rattle.odb.specs.Store.{store_is_ok}
use Rattle.commitgraph.specs.Graph.{graph_ok, layout_of}
use Rattle.commitgraph.specs.declared.Layout.{Layout}
use Rattle.walk.specs.Lookup.{World, world_of, row_at, row, pair_of}
use Rattle.walk.specs.State.{is_empty}
use Rattle.walk.specs.declared.GenThenTime.{GenThenTime}
use Rattle.walk.specs.Demand.{pair_at}
use Rattle.reading.specs.Files.{cache_of}
use Rattle.reading.specs.Stored.{GivesBody}
use Rattle.reach.specs.Tested.{same_ids, same_time, agrees_in}
use Rattle.judging.specs.declared.Judged.{Judged}

-- the files as an opening lends them: 4 to 6 do not apply, and the graph file is used
pub record Files (width : ℕ) (c : Option Layout) (g s : List ℕ) : Type 0 where
  pub cache : c ≡ cache_of width g true
  pub store : store_is_ok width s ≡ true
  pub graph : (is_empty g || graph_ok width g) ≡ true

-- what `same_parents` answers of the row at position p with n parents, and of a body with as many
pub record ComparesParents (width : ℕ) (g : List ℕ) (l : Layout) (p : ℕ) (b : List ℕ) (n : ℕ) (r : Bool) : Type 0 where
  pub right : l ≡ layout_of width g → (ps : List (Id × ℤ)) (v : ℕ) (t : ℤ) → row_at width g p ≡ row ps v t → n ≡ length ps
      → (header width b).tree ≡ true → n ≡ length (header width b).ids → r ≡ same_ids (map (λ q. q.0) ps) (header width b).ids

-- what `row_agrees` answers of the row at position p with m parents, and of a readable body with n parents and these seconds
pub record ComparesRow (width : ℕ) (g : List ℕ) (l : Layout) (p m : ℕ) (time : ℤ) (b : List ℕ) (n : ℕ) (seconds : ℤ) (r : Bool) : Type 0 where
  pub right : l ≡ layout_of width g → (ps : List (Id × ℤ)) (v : ℕ) (t : ℤ) → row_at width g p ≡ row ps v t → m ≡ length ps
      → (stamp : Stamp) → reading_of (header width b) ≡ readable_as n stamp → r ≡ (same_ids (map (λ q. q.0) ps) (header width b).ids && same_time seconds time)

-- a row that agrees, at position p with the pair q
abbrev pub agreeing : ℕ → GenThenTime → Judged
agreeing p q = record { position = p; pair = q }

-- by the answer: the graph agrees and this is the pair, or it does not
abbrev pub ToldJudged : World → Id → Option Judged → Type 0
ToldJudged w x (Some j) = (agrees_in w x ≡ true) × (pair_of j.pair ≡ pair_at w x)
ToldJudged w x None = agrees_in w x ≡ false

-- what `judge` answers of the commit x, whose body b is readable with n parents and these seconds
pub record Judges (width : ℕ) (c : Option Layout) (g s : List ℕ) (x : Id) (b : List ℕ) (n : ℕ) (seconds : ℤ) (r : Option Judged) : Type 0 where
  pub right : Files width c g s → GivesBody width s x b → (t : Stamp) → reading_of (header width b) ≡ readable_as n t → seconds ≡ t.seconds.0 → ToldJudged (world_of width s g) x r
