-- What the functions of this crate answer, with a memo that holds what is so of each entry of the store. Assumes nothing.
use Rattle.std.specs.Prelude.{ℕ, ◌≡◌, Bool, true, List}
use Rattle.hash.specs.Bytes.{Id}
use Rattle.odb.specs.Store.{standing_entries, store_is_ok}
use Rattle.memo.specs.Cells.{Holds}
use Rattle.memo.specs.AtHand.{store_alone, id_at}
use Rattle.withinreach.specs.Within.{readable_within}

-- what the cells mean, whichever bench's they are: all is readable within so many steps of an entry
abbrev pub all_read : ℕ → List ℕ → ℕ → Bool → ℕ → Bool
all_read width s k bed d = readable_within d (store_alone width s) (id_at width s k)

abbrev pub Remembers : ℕ → List ℕ → List ℕ → Type 0
Remembers width s m = Holds (all_read width s) (standing_entries width s) m

-- whether all is readable within d steps of x
pub record Reads (width : ℕ) (s : List ℕ) (d : ℕ) (x : Id) (m m' : List ℕ) (r : Bool) : Type 0 where
  pub right : store_is_ok width s ≡ true → Remembers width s m → (r ≡ readable_within d (store_alone width s) x) × Remembers width s m'
