-- What the functions of this crate answer, with a memo that holds what is so of the game from each entry of the store. Assumes nothing.
use Rattle.std.specs.Prelude.{ℕ, ◌<◌, ◌≡◌, Bool, true, false, List}
use Rattle.hash.specs.Bytes.{Id, among}
use Rattle.odb.specs.Store.{standing_entries, store_is_ok}
use Rattle.walk.specs.Reach.{links}
use Rattle.memo.specs.Cells.{code_of, Holds}
use Rattle.memo.specs.AtHand.{store_alone, id_at, EntryOf}
use Rattle.moves.specs.Game.{forced, bedForced, first_of}

-- what the cells mean: the game from an entry, a bench to move, with so many moves
abbrev pub played : ℕ → List ℕ → List Id → ℕ → Bool → ℕ → Bool
played width s list k bed d = forced (store_alone width s) list bed d (id_at width s k)

abbrev pub Remembers : ℕ → List ℕ → List Id → List ℕ → Type 0
Remembers width s list m = Holds (played width s list) (standing_entries width s) m

-- whether x is on the list, k being its entry
pub record Lists (width : ℕ) (s : List ℕ) (list : List Id) (k : ℕ) (x : Id) (m m' : List ℕ) (r : Bool) : Type 0 where
  pub right : EntryOf width s (standing_entries width s) x k → Remembers width s list m → (r ≡ among x list) × Remembers width s list m'

-- what is settled without a move: 0 where nothing is
pub record Settles (width : ℕ) (s : List ℕ) (list : List Id) (k : ℕ) (bed : Bool) (d : ℕ) (x : Id) (m m' : List ℕ) (r : ℕ) : Type 0 where
  pub left : r ≡ 0 → 0 < d
  pub keeps : EntryOf width s (standing_entries width s) x k → Remembers width s list m → Remembers width s list m'
  pub open' : EntryOf width s (standing_entries width s) x k → Remembers width s list m → r ≡ 0 → among x list ≡ false
  pub known : EntryOf width s (standing_entries width s) x k → Remembers width s list m → (r ≡ 0 → ⊥) → r ≡ code_of (forced (store_alone width s) list bed d x)

-- whether the cone forces the trace, a bench to move
pub record Judges (width : ℕ) (s : List ℕ) (list : List Id) (bed : Bool) (d : ℕ) (x : Id) (m m' : List ℕ) (r : Bool) : Type 0 where
  pub right : store_is_ok width s ≡ true → Remembers width s list m → (r ≡ forced (store_alone width s) list bed d x) × Remembers width s list m'

-- the number of the first parent from which the cone forces it, the bed to move with d moves left
pub record FindsFirst (width : ℕ) (s : List ℕ) (list : List Id) (d : ℕ) (x : Id) (m m' : List ℕ) (r : ℕ) : Type 0 where
  pub right : store_is_ok width s ≡ true → Remembers width s list m → (r ≡ first_of (λ p. bedForced d (store_alone width s) list p) (links (store_alone width s) x)) × Remembers width s list m'
