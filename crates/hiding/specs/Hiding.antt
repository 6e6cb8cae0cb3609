-- Hiding adds up (document 02, card 14): its three sentences, of any way to run openings that differ in their hidden tips alone. Assumes nothing.
use Rattle.std.specs.Prelude.{ℕ, ◌+◌, ◌*◌, ◌≤◌, ◌≡◌, ◌⊎◌, ◌↔◌, List, [], ◌∷◌, ◌++◌, length, None}
use Rattle.hash.specs.Bytes.{Id}
use Rattle.walk.specs.Lookup.{world_of}
use Rattle.walk.specs.Opening.{Input, walk_of, list_ids, list_limit, refusal, width_in}
use Rattle.walk.specs.Reach.{Mem, NoDup, Reaches}
use Rattle.walk.specs.Demand.{Premises, Listed}
use Rattle.reach.specs.Search.{Reached}

-- "with all else alike": the same opening with another hidden list
abbrev pub hiding : Input → List ℕ → Input
hiding i h = record { store = i.store; graph = i.graph; tips = i.tips; hidden = h; excluded = i.excluded; settings = i.settings }

-- a list of whole ids
pub record Whole (width : ℕ) (b : List ℕ) : Type 0 where
  pub count : ℕ
  pub is : length b ≡ width * count

-- "the premises of a tested opening": none of 2 to 6 applies, and of everything reachable from the tips and hidden tips every commit is readable,
-- the graph agrees, and each pair falls. A tested opening that is accepted has found both: its verdict is none of 13, 14 and 15 (`tested_by`)
pub record Tested (i : Input) : Type 0 where
  pub fits : refusal i ≡ None
  pub premises : Premises (walk_of i) (list_ids (width_in i) i.tips)

-- the premises with the joined list are those with either part, and so with any list of the same ids
unfoldable pub PartsTested : Input → Type 0
PartsTested i = (h k : List ℕ) → Whole (width_in i) h → Whole (width_in i) k → Tested (hiding i (h ++ k)) → Tested (hiding i h) × Tested (hiding i k)

unfoldable pub SameTested : Input → Type 0
SameTested i = (h k : List ℕ) → Whole (width_in i) k → length k ≤ list_limit (width_in i) → ((x : Id) → Mem x (list_ids (width_in i) h) ↔ Mem x (list_ids (width_in i) k)) → Tested (hiding i h) → Tested (hiding i k)

-- l has the runs that an opening leaves to be listed, each once
pub record Leaves (i : Input) (l : List Id) : Type 0 where
  pub once : NoDup l
  pub exactly : (x : Id) → Mem x l ↔ Listed (walk_of i) (list_ids (width_in i) i.tips) x

-- W i is a whole run of an opening with the input i, in whatever way, with "memory enough"; runs has the ids that it gives
pub record AddsUp (W : Input → Type 0) (runs : (i : Input) → W i → List Id) (i : Input) : Type 0 where
  -- "for any two hidden lists of together at most 1,024 ids (a tested opening accepts no more) … the runs left by hiding both are exactly those
  -- left by the first that are also left by the second"
  pub both : (h k : List ℕ) → Whole (width_in i) h → Whole (width_in i) k → Tested (hiding i (h ++ k))
      → (d : W (hiding i (h ++ k))) (e : W (hiding i h)) (f : W (hiding i k))
      → (x : Id) → Mem x (runs (hiding i (h ++ k)) d) ↔ (Mem x (runs (hiding i h) e) × Mem x (runs (hiding i k) f))
  -- "swapping hidden tips, or repeating them within that number, alters no listed run": lists of the same ids, in any order and any number of times
  pub none_altered : (h k : List ℕ) → Whole (width_in i) k → length k ≤ list_limit (width_in i) → ((x : Id) → Mem x (list_ids (width_in i) h) ↔ Mem x (list_ids (width_in i) k)) → Tested (hiding i h)
      → (d : W (hiding i h)) (e : W (hiding i k))
      → ((x : Id) → Mem x (runs (hiding i h) d) ↔ Mem x (runs (hiding i k) e)) × (length (runs (hiding i h) d) ≡ length (runs (hiding i k) e))
  -- "Adding one hidden tip takes away only runs reachable from it": it adds none, and a run is left still or the tip reaches it
  pub only-reached : (h t : List ℕ) → Whole (width_in i) h → length t ≡ width_in i → Tested (hiding i (h ++ t))
      → (d : W (hiding i h)) (e : W (hiding i (h ++ t)))
      → ((x : Id) → Mem x (runs (hiding i (h ++ t)) e) → Mem x (runs (hiding i h) d))
      × ((x : Id) → Mem x (runs (hiding i h) d) → Mem x (runs (hiding i (h ++ t)) e) ⊎ Reaches (world_of (width_in i) i.store i.graph) x t)
  -- "so the number lost is at most the number of commits that it reaches": r has them, each once
  pub few-lost : (h t : List ℕ) → Whole (width_in i) h → length t ≡ width_in i → Tested (hiding i (h ++ t))
      → (d : W (hiding i h)) (e : W (hiding i (h ++ t))) (r : List Id) → Reached (world_of (width_in i) i.store i.graph) (t ∷ []) r
      → length (runs (hiding i h) d) ≤ length (runs (hiding i (h ++ t)) e) + length r
