-- What a link to a parent promises: for every state that the memory reads as, the state after the walk's own visit. Assumes nothing.
use Rattle.std.specs.Prelude.{ℕ, suc, ◌+◌, ◌≤◌, ◌<◌, ◌≡◌, Bool, true, false, length, get_or, ℤ}
use mathlib.Core.List.{List, Memᴰ}
use Rattle.hash.specs.Bytes.{Id, width_of}
use Rattle.odb.specs.Store.{store_is_ok}
use Rattle.walk.specs.declared.Settings.{Settings}
use Rattle.walk.specs.Lookup.{world_of, seconds_for}
use Rattle.walk.specs.State.{Walk, State}
use Rattle.walk.specs.Opening.{list_ids}
use Rattle.walk.specs.Next.{admits, visit}
use Rattle.state.specs.declared.Record.{Record}
use Rattle.state.specs.Reads.{Memory, Shape, Reads, Universe}
use Rattle.state.specs.Shapes.{shape_for}
use Rattle.state.specs.Steps.{Waits}

-- the walk v goes by the settings and the excluded ids that a call is given, and sh is its shape, with ids of the settings' kind
pub record GoesBy (v : Walk) (sh : Shape) (excluded : List ℕ) (settings : Settings) : Type 0 where
  pub same-settings : v.settings ≡ settings
  pub same-excluded : v.excluded ≡ list_ids (width_of settings.kind) excluded
  pub shape : sh ≡ shape_for settings sh.cap sh.fixed
  pub same_kind : sh.fixed.kind ≡ settings.kind

-- the record r and the memory m read as the state st, whose ids lie in u, a list of no more ids than there are slots; and n commits more
-- may be admitted
pub record Ready (sh : Shape) (r : Record) (m : Memory) (st : State) (u : List Id) (n : ℕ) : Type 0 where
  pub reads : Reads r m sh st
  pub failed : r.failed ≡ false
  pub inside : Universe sh st u
  pub slots : sh.cap ≤ 4294967296
  pub numbers : st.admitted + n + 2 < 4294967296

-- from the memory m to the record r' and the memory m', which read as the state st'; from 2 · cap on the line is as it was
pub record Went (sh : Shape) (m : Memory) (r' : Record) (m' : Memory) (st' : State) (u : List Id) (n : ℕ) : Type 0 where
  pub ready : Ready sh r' m' st' u n
  pub line_kept : (k : ℕ) → sh.cap + sh.cap ≤ k → get_or m'.line k 0 ≡ get_or m.line k 0

-- what `admits` answers for the parent x with t seconds
pub record Admits (excluded : List ℕ) (settings : Settings) (x : Id) (t : ℤ) (r : Bool) : Type 0 where
  pub right : (v : Walk) → v.settings ≡ settings → v.excluded ≡ list_ids (width_of settings.kind) excluded → r ≡ admits v x t

-- what `insert_into_queue` does with a new parent x, in its slot: it waits if its link is admitted, else nothing is changed
pub record Enters (excluded : List ℕ) (settings : Settings) (r : Record) (times times' : List ℤ) (line line' : List ℕ) (x : Id) (t : ℤ) (slot : ℕ) (r' : Record) : Type 0 where
  pub turned : (v : Walk) → v.settings ≡ settings → v.excluded ≡ list_ids (width_of settings.kind) excluded → admits v x t ≡ false → (times' ≡ times) × (line' ≡ line) × (r' ≡ r)
  pub admitted : (v : Walk) → v.settings ≡ settings → v.excluded ≡ list_ids (width_of settings.kind) excluded → admits v x t ≡ true → Waits r times times' line line' slot t r'

-- the parent x with t seconds is visited
pub record Visits (excluded : List ℕ) (settings : Settings) (r : Record) (m m' : Memory) (x : Id) (t : ℤ) (r' : Record) : Type 0 where
  pub right : (v : Walk) (sh : Shape) (st : State) (u : List Id) (n : ℕ) → GoesBy v sh excluded settings → Ready sh r m st u (suc n) → length x ≡ width_of settings.kind → Memᴰ x u
      → Went sh m r' m' (visit v st x t) u n

-- "from the book, else they are 0": the parent x of a commit from the store is visited
pub record VisitsStored (excluded : List ℕ) (settings : Settings) (store : List ℕ) (r : Record) (m m' : Memory) (x : Id) (r' : Record) : Type 0 where
  pub right : store_is_ok (width_of settings.kind) store ≡ true → (g : List ℕ) → Visits excluded settings r m m' x (seconds_for (world_of (width_of settings.kind) store g) x) r'
