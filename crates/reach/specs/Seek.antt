-- The search in lent memory, commit by commit. Assumes nothing.
use Rattle.std.specs.Prelude.{ℕ, suc, ◌<◌, ◌≡◌, Bool, true, List, [], Result, Ok, Err}
use Rattle.hash.specs.Bytes.{Id}
use Rattle.odb.specs.Store.{store_is_ok}
use Rattle.walk.specs.Lookup.{World, world_of}
use Rattle.walk.specs.Reach.{Mem, links}
use Rattle.walk.specs.declared.Refusal.{Refusal}
use Rattle.walk.specs.declared.Refusal.TheVariants.{UnreadableReach, BufferTooSmall}
use Rattle.reach.specs.declared.seek.SeekError.{SeekError}
use Rattle.reach.specs.declared.seek.SeekError.TheVariants.{Unreadable, NoRoom}
use Rattle.reach.specs.Search.{Reached, Growing, ReadableTo, Stuck, AllReadable}
use Rattle.reach.specs.Memory.{Lent, Lists, Named, Spares}

-- "13 unreadable reach", or 1 where the lent memory is too small
abbrev pub refusal_of : SeekError → Refusal
refusal_of Unreadable = UnreadableReach
refusal_of NoRoom = BufferTooSmall

-- the memory m reads as a search from the roots that has met the list l and read its first k; u has all that can be met
pub record Seeking (width : ℕ) (w : World) (u roots : List Id) (second : Bool) (cap from : ℕ) (m : Lent) (n : ℕ) (l : List Id) (k : ℕ) : Type 0 where
  pub lists : Lists width second cap from m n l
  pub named : Named width cap u m
  pub growing : Growing w roots l k
  pub readable : ReadableTo w l k
  pub roots_in : (x : Id) → Mem x roots → Mem x l
  pub parents_in : (x p : Id) → Mem p (links w x) → Mem p u

-- one commit more was read
pub record GoesOn (width : ℕ) (w : World) (u roots : List Id) (second : Bool) (cap from : ℕ) (m m' : Lent) (n' k : ℕ) : Type 0 where
  pub list : List Id
  pub seeking : Seeking width w u roots second cap from m' n' list k
  pub spares : Spares width second cap from m m'

-- by the answer
abbrev pub ToldStep : ℕ → World → List Id → List Id → Bool → ℕ → ℕ → Lent → Lent → ℕ → Result ℕ SeekError → Type 0
ToldStep width w u roots second cap from m m' k (Ok n') = GoesOn width w u roots second cap from m m' n' k
ToldStep width w u roots second cap from m m' k (Err Unreadable) = Stuck w roots
ToldStep width w u roots second cap from m m' k (Err NoRoom) = ⊥

-- what `read_at` does
pub record Reads (width : ℕ) (second : Bool) (cap from : ℕ) (s : List ℕ) (m m' : Lent) (n k : ℕ) (r : Result ℕ SeekError) : Type 0 where
  pub right : store_is_ok width s ≡ true → (g : List ℕ) (u roots l : List Id) → Seeking width (world_of width s g) u roots second cap from m n l k → k < n
      → ToldStep width (world_of width s g) u roots second cap from m m' (suc k) r

-- the whole of what the roots reach stands in the line, and is readable
pub record Finds (width : ℕ) (w : World) (u roots : List Id) (second : Bool) (cap from : ℕ) (m m' : Lent) (n' : ℕ) : Type 0 where
  pub list : List Id
  pub reached : Reached w roots list
  pub readable : AllReadable w roots
  pub lists : Lists width second cap from m' n' list
  pub named : Named width cap u m'
  pub spares : Spares width second cap from m m'

-- by the answer: 13 comes where a commit that is reached is not readable, and there alone; where there is room, no answer says that there is none
abbrev pub ToldSought : ℕ → World → List Id → List Id → Bool → ℕ → ℕ → Lent → Lent → Result ℕ SeekError → Type 0
ToldSought width w u roots second cap from m m' (Ok n') = Finds width w u roots second cap from m m' n'
ToldSought width w u roots second cap from m m' (Err Unreadable) = Stuck w roots
ToldSought width w u roots second cap from m m' (Err NoRoom) = ⊥

-- what `search` does
pub record Seeks (width : ℕ) (second : Bool) (cap from : ℕ) (s : List ℕ) (m m' : Lent) (n : ℕ) (r : Result ℕ SeekError) : Type 0 where
  pub right : store_is_ok width s ≡ true → (g : List ℕ) (u roots l : List Id) → Seeking width (world_of width s g) u roots second cap from m n l 0
      → ToldSought width (world_of width s g) u roots second cap from m m' r

-- what `search_from` does, where nothing has the search's mark yet and u has all that can be met
pub record SeeksFrom (width : ℕ) (second : Bool) (cap from : ℕ) (s : List ℕ) (m m' : Lent) (roots : List Id) (r : Result ℕ SeekError) : Type 0 where
  pub right : store_is_ok width s ≡ true → (g : List ℕ) (u : List Id) → Lists width second cap from m 0 [] → Named width cap u m → ((x : Id) → Mem x roots → Mem x u)
      → ((x p : Id) → Mem p (links (world_of width s g) x) → Mem p u) → ToldSought width (world_of width s g) u roots second cap from m m' r
