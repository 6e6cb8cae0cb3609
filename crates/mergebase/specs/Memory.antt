-- What the steps of the call do in lent memory. Assumes nothing.
use Rattle.std.specs.Prelude.{ℕ, ◌+◌, ◌/◌, ◌≤◌, ◌≡◌, true, false, List, [], ◌∷◌, length, Option, Some, None, Result, Ok, Err}
use Rattle.hash.specs.Bytes.{Id}
use Rattle.odb.specs.Store.{store_is_ok}
use Rattle.hashtable.specs.Table.{Sized, id_of}
use Rattle.walk.specs.declared.Refusal.TheVariants.{UnreadableReach, TangledReach}
use Rattle.walk.specs.Lookup.{World, world_of}
use Rattle.object.specs.Header.{parent_size}
use Rattle.walk.specs.Reach.{Mem, links}
use Rattle.reach.specs.Search.{Reached, Stuck, AllReadable}
use Rattle.reach.specs.Memory.{most_slots, Lent, In, Lists, Named}
use Rattle.parting.specs.Best.{Common, Best}
use Rattle.parting.specs.First.{First}
use Rattle.parting.specs.Searched.{Searched}
use Rattle.parting.specs.Choice.{Choice}
use Rattle.walk.specs.declared.Refusal.{Refusal}
use Rattle.mergebase.specs.Parting.{MergeBase, no_base, refused_base, base_at}

-- the answer in lent memory: the commit by its slot
abbrev pub Place : Type 0
Place = Result (Option ℕ) Refusal

-- a choice, as a place
abbrev pub parted_of : Choice → Place
parted_of (Ok p) = Ok p
parted_of (Err _) = Err TangledReach

-- the answer by its place
abbrev pub answer_of : ℕ → List ℕ → Place → MergeBase
answer_of width names (Ok None) = no_base
answer_of width names (Ok (Some slot)) = base_at (id_of width names slot)
answer_of width names (Err r) = refused_base r

-- what is said of the tips, the commit by the slot that holds it
pub data PartsAt (width : ℕ) (w : World) (a b : Id) (cap : ℕ) (m : Lent) : Place → Type 0 where
  unreadable : Stuck w (a ∷ b ∷ []) → PartsAt width w a b cap m (Err UnreadableReach)
  nothing : AllReadable w (a ∷ b ∷ []) → ((x : Id) → Common w a b x → ⊥) → PartsAt width w a b cap m (Ok None)
  first : AllReadable w (a ∷ b ∷ []) → (x : Id) → First w a b x → (slot : ℕ) → In width cap m x slot → PartsAt width w a b cap m (Ok (Some slot))
  tangled : AllReadable w (a ∷ b ∷ []) → (x : Id) → Common w a b x → ((y : Id) → Best w a b y → ⊥) → PartsAt width w a b cap m (Err TangledReach)

-- what `best_of` does after both searches
pub record BestOf (width : ℕ) (s : List ℕ) (m : Lent) (levels : List ℕ) (cap n : ℕ) (r : Place) : Type 0 where
  pub right : store_is_ok width s ≡ true → (g : List ℕ) (a b : Id) (l : List Id) → Searched width (world_of width s g) a b cap m n l → AllReadable (world_of width s g) (a ∷ b ∷ [])
      → cap ≤ length levels → PartsAt width (world_of width s g) a b cap m r

-- the search from a has met the n commits of l; that from b has not begun, and u has all that it can meet
pub record Begun (width : ℕ) (w : World) (u : List Id) (a b : Id) (cap : ℕ) (m : Lent) (n : ℕ) (l : List Id) : Type 0 where
  pub one : Lists width false cap 0 m n l
  pub reached : Reached w (a ∷ []) l
  pub readable : AllReadable w (a ∷ [])
  pub other : Lists width true cap cap m 0 []
  pub named : Named width cap u m
  pub tip_in : Mem b u
  pub parents_in : (x p : Id) → Mem p (links w x) → Mem p u

-- what `part_from` does
pub record PartsFrom (width : ℕ) (s : List ℕ) (m m' : Lent) (levels : List ℕ) (cap n : ℕ) (roots : List Id) (r : Place) : Type 0 where
  pub right : store_is_ok width s ≡ true → (g : List ℕ) (u : List Id) (a b : Id) (l : List Id) → Begun width (world_of width s g) u a b cap m n l → roots ≡ b ∷ []
      → cap ≤ length levels → PartsAt width (world_of width s g) a b cap m' r

-- room for both searches and the stains
pub record Roomy (width : ℕ) (s : List ℕ) (m : Lent) (levels : List ℕ) (cap : ℕ) : Type 0 where
  pub sized : Sized width m.names m.marks cap
  pub two_runs : cap + cap ≤ length m.line
  pub stains : cap ≤ length levels
  pub enough : 2 + length s / parent_size width ≤ cap
  pub small : cap ≤ most_slots

-- what `part_tips` does
pub record PartsTips (width : ℕ) (s : List ℕ) (m m' : Lent) (levels : List ℕ) (cap : ℕ) (one other : List Id) (r : Place) : Type 0 where
  pub right : store_is_ok width s ≡ true → (g : List ℕ) (a b : Id) → Roomy width s m levels cap → one ≡ a ∷ [] → other ≡ b ∷ [] → PartsAt width (world_of width s g) a b cap m' r
