-- The commit at hand: its entry in the store, and its parents in its body. Assumes nothing.
use Rattle.object.specs.Read.{Reading}
use Rattle.std.specs.Prelude.{ℕ, ◌<◌, ◌≤◌, ◌≡◌, true, List, [], length, get_or, Ok, Err}
use Rattle.hash.specs.Bytes.{Id}
use Rattle.idlist.specs.IdList.{id_of}
use Rattle.object.specs.Ids.{id_in}
use Rattle.odb.specs.Store.{entry_ids, standing_entries, store_is_ok}
use Rattle.walk.specs.Lookup.{World, world_of}
use Rattle.walk.specs.Reach.{links}
use Rattle.reading.specs.Body.{parent_id_at}

-- "Moves are read from the book alone": what the walk reads without a graph file
abbrev pub store_alone : ℕ → List ℕ → World
store_alone width s = world_of width s []

-- the id of entry k
abbrev pub id_at : ℕ → List ℕ → ℕ → Id
id_at width s k = id_of (entry_ids width s) k

-- k is the number of the entry under x, or n
pub record EntryOf (width : ℕ) (s : List ℕ) (n : ℕ) (x : Id) (k : ℕ) : Type 0 where
  pub is : k < n → id_at width s k ≡ x

-- the parents of a readable body
abbrev pub parents_read : Reading → ℕ
parents_read (Ok r) = r.parents
parents_read (Err e) = 0

-- the commit x has n parents, and they stand in the body b
pub record ParentsIn (width : ℕ) (s : List ℕ) (x : Id) (b : List ℕ) (n : ℕ) : Type 0 where
  pub count : length (links (store_alone width s) x) ≡ n
  pub each : (i : ℕ) → i < n → id_in width (parent_id_at width b i) ≡ get_or (links (store_alone width s) x) i []
