-- The choice (document 02, cards 8 and 11) by marks and stains, on any lent memory. Assumes nothing.
use Rattle.std.specs.Prelude.{ℕ, ◌<◌, ◌≡◌, Bool, true, false, List, get_or, Option, Some, None, Result, Ok, Err}
use Rattle.hash.specs.Bytes.{Id, pick}
use Rattle.odb.specs.Store.{store_is_ok}
use Rattle.hashtable.specs.Marks.{frontier}
use Rattle.hashtable.specs.Table.{id_of}
use Rattle.walk.specs.Lookup.{world_of}
use Rattle.stain.specs.Stain.{is_stained}
use Rattle.parting.specs.First.{goes_first}
use Rattle.parting.specs.declared.Tangled.{Tangled}

-- what the commits of the line come to: a best one stands in a slot; none is common; or some are, and none of these is best
abbrev pub Choice : Type 0
Choice = Result (Option ℕ) Tangled

-- the commit at place i of the line has both marks; it is stained
abbrev pub both_at : List ℕ → List ℕ → ℕ → Bool
both_at marks line i = frontier (get_or marks (get_or line i 0) 0)

abbrev pub stain_at : List ℕ → List ℕ → ℕ → Bool
stain_at levels line i = is_stained levels (get_or line i 0)

-- a common commit is met that is not best
abbrev pub met_of : Choice → Choice
met_of (Ok None) = Err (record {})
met_of (Ok (Some slot)) = Ok (Some slot)
met_of (Err e) = Err e

-- what `goes_first` answers of the commits in two slots
pub record GoesFirst (width : ℕ) (s names : List ℕ) (x y : ℕ) (r : Bool) : Type 0 where
  pub right : store_is_ok width s ≡ true → (g : List ℕ) → r ≡ goes_first (world_of width s g) (id_of width names x) (id_of width names y)

-- of two slots the one whose commit goes first
pub record FirstOfTwo (width : ℕ) (s names : List ℕ) (x y : ℕ) (r : Choice) : Type 0 where
  pub by : Bool
  pub goes : GoesFirst width s names x y by
  pub is : r ≡ Ok (Some (pick by x y))

-- a best commit is met: it is chosen where it is the first so far
abbrev pub Sooner : ℕ → List ℕ → List ℕ → Choice → ℕ → Choice → Type 0
Sooner width s names (Ok None) slot r = r ≡ Ok (Some slot)
Sooner width s names (Err _) slot r = r ≡ Ok (Some slot)
Sooner width s names (Ok (Some other)) slot r = FirstOfTwo width s names slot other r

-- what `sooner` does
pub record TakesSooner (width : ℕ) (s names : List ℕ) (past : Choice) (slot : ℕ) (r : Choice) : Type 0 where
  pub told : Sooner width s names past slot r

-- what `choose_next` does
pub record ChoosesNext (width : ℕ) (s names marks levels : List ℕ) (past : Choice) (slot : ℕ) (r : Choice) : Type 0 where
  pub passed : frontier (get_or marks slot 0) ≡ false → r ≡ past
  pub met : frontier (get_or marks slot 0) ≡ true → is_stained levels slot ≡ true → r ≡ met_of past
  pub taken : frontier (get_or marks slot 0) ≡ true → is_stained levels slot ≡ false → Sooner width s names past slot r

-- among the first k places some have both marks, and each of these is stained
pub record Knotted (marks levels line : List ℕ) (k : ℕ) : Type 0 where
  pub place : ℕ
  pub low : place < k
  pub both : both_at marks line place ≡ true
  pub stained : (i : ℕ) → i < k → both_at marks line i ≡ true → stain_at levels line i ≡ true

-- the id at place i of the line
abbrev pub id_at : ℕ → List ℕ → List ℕ → ℕ → Id
id_at width names line i = id_of width names (get_or line i 0)

-- the slot stands at one of the first k places, has both marks and is not stained; in a good store it goes before every other such
pub record Picked (width : ℕ) (s names marks levels line : List ℕ) (k slot : ℕ) : Type 0 where
  pub place : ℕ
  pub low : place < k
  pub is : get_or line place 0 ≡ slot
  pub both : both_at marks line place ≡ true
  pub clean : stain_at levels line place ≡ false
  pub first : store_is_ok width s ≡ true → (g : List ℕ) (i : ℕ) → i < k → both_at marks line i ≡ true → stain_at levels line i ≡ false
      → (id_at width names line i ≡ id_at width names line place → ⊥) → goes_first (world_of width s g) (id_at width names line place) (id_at width names line i) ≡ true

-- by the answer
abbrev pub ToldChoice : ℕ → List ℕ → List ℕ → List ℕ → List ℕ → List ℕ → ℕ → Choice → Type 0
ToldChoice width s names marks levels line k (Ok None) = (i : ℕ) → i < k → both_at marks line i ≡ false
ToldChoice width s names marks levels line k (Err _) = Knotted marks levels line k
ToldChoice width s names marks levels line k (Ok (Some slot)) = Picked width s names marks levels line k slot

-- what `choose` does
pub record Chooses (width : ℕ) (s names marks levels line : List ℕ) (n : ℕ) (r : Choice) : Type 0 where
  pub told : ToldChoice width s names marks levels line n r
