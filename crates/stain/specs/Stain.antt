-- Stains (document 02, card 8): which slots are stained as commits stain their parents. Assumes nothing.
use Rattle.std.specs.Prelude.{ℕ, ◌≤◌, ◌<◌, ◌≡◌, ◌⊎◌, Bool, true, false, cond, List, [], ◌∷◌, length, get_or, set, eqb}
use Rattle.hash.specs.Bytes.{Id}
use Rattle.object.specs.Header.{Header}
use Rattle.odb.specs.Store.{store_is_ok}
use Rattle.hashtable.specs.Marks.{frontier}
use Rattle.hashtable.specs.Table.{Holds, Table, mark_for}
use Rattle.walk.specs.Lookup.{World, world_of}
use Rattle.walk.specs.Reach.{Mem, links}
use Rattle.reach.specs.Memory.{Lent, Lists}

-- the levels with a stain in a slot, unless it is `own`
unfoldable pub stained_at : ℕ → ℕ → List ℕ → List ℕ
stained_at own slot levels = cond (eqb slot own) levels (set levels slot 1)

-- slot k is stained
abbrev pub is_stained : List ℕ → ℕ → Bool
is_stained levels k = eqb (get_or levels k 0) 1

-- the slots of ids of which Q holds are stained now; those of other ids are as they were
pub record Stains (width : ℕ) (names marks : List ℕ) (cap : ℕ) (levels levels' : List ℕ) (Q : Id → Type 0) : Type 0 where
  pub keeps : (k : ℕ) → is_stained levels k ≡ true → is_stained levels' k ≡ true
  pub only : (z : Id) (k : ℕ) → Holds width false names marks cap z k → is_stained levels' k ≡ true → (is_stained levels k ≡ true) ⊎ Q z
  pub does : (z : Id) (k : ℕ) → Holds width false names marks cap z k → Q z → is_stained levels' k ≡ true

-- z is one of xs, and is not y
pub record Beside (y : Id) (xs : List Id) (z : Id) : Type 0 where
  pub one : Mem z xs
  pub other : y ≡ z → ⊥

-- what `stain_id` does, where y stands in the slot `own`
pub record StainsId (width : ℕ) (names marks levels levels' : List ℕ) (cap own : ℕ) (x : Id) : Type 0 where
  pub right : Table width false names marks cap → cap ≤ length levels → (y : Id) → Holds width false names marks cap y own
      → Stains width names marks cap levels levels' (Beside y (x ∷ []))

-- what `stain_parents` does with the parents of a header with a good tree line, of which there are n
pub record StainsParents (width : ℕ) (h : Header) (names marks levels levels' : List ℕ) (cap own n : ℕ) : Type 0 where
  pub right : h.tree ≡ true → n ≡ length h.ids → Table width false names marks cap → cap ≤ length levels → (y : Id) → Holds width false names marks cap y own
      → Stains width names marks cap levels levels' (Beside y h.ids)

-- what `stain_commit` does in a good store
pub record StainsCommit (width : ℕ) (s names marks levels levels' : List ℕ) (cap own : ℕ) : Type 0 where
  pub right : store_is_ok width s ≡ true → (g : List ℕ) → Table width false names marks cap → cap ≤ length levels → (y : Id) → Holds width false names marks cap y own
      → Stains width names marks cap levels levels' (Beside y (links (world_of width s g) y))

-- the id x has the marks of both searches
abbrev pub both_in : ℕ → List ℕ → List ℕ → ℕ → Id → Bool
both_in width names marks cap x = frontier (mark_for width false names marks cap x)

-- z is a parent of the commit y, of which `common` holds, and is not y
pub record Below (w : World) (common : Id → Bool) (y z : Id) : Type 0 where
  pub both : common y ≡ true
  pub parent : Mem z (links w y)
  pub other : y ≡ z → ⊥

-- what `stain_at` does
pub record StainsAt (width : ℕ) (s names marks levels levels' : List ℕ) (cap own : ℕ) : Type 0 where
  pub right : store_is_ok width s ≡ true → (g : List ℕ) → Table width false names marks cap → cap ≤ length levels → (y : Id) → Holds width false names marks cap y own
      → Stains width names marks cap levels levels' (Below (world_of width s g) (both_in width names marks cap) y)

-- the same for one of the first k of a list
pub record BelowFirst (w : World) (common : Id → Bool) (l : List Id) (k : ℕ) (z : Id) : Type 0 where
  pub place : ℕ
  pub low : place < k
  pub below : Below w common (get_or l place []) z

-- what `stain_all` does, where the memory reads as a search
pub record StainsAll (width : ℕ) (s : List ℕ) (m : Lent) (levels levels' : List ℕ) (cap n : ℕ) : Type 0 where
  pub right : store_is_ok width s ≡ true → (g : List ℕ) (l : List Id) → Lists width false cap 0 m n l → cap ≤ length levels
      → Stains width m.names m.marks cap levels levels' (BelowFirst (world_of width s g) (both_in width m.names m.marks cap) l n)
