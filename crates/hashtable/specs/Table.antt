-- The id table: which slots hold an id, what makes a table right, and what searching and inserting mean. Assumes nothing.
use Rattle.std.specs.Prelude.{ℕ, zero, suc, ◌+◌, ◌-◌, ◌*◌, ◌%◌, ◌≤◌, ◌<◌, ◌≡◌, List, [], ◌∷◌, Bool, true, false, cond, ◌&&◌, length, get_or, set, ltb}
use Rattle.hash.specs.Bytes.{Id, eq_id, at, u32_at, set_down}
use Rattle.hashtable.specs.Marks.{live}
use Rattle.hashtable.specs.declared.table.Slot.{Slot}
use Rattle.hashtable.specs.declared.table.Slot.TheVariants.{Found, Vacant, Full}

-- the id in slot k
abbrev pub id_of : ℕ → List ℕ → ℕ → Id
id_of w names k = at names (w * k) w

-- slot k holds an id; `live_at false` says that it is not empty
abbrev pub live_at : Bool → List ℕ → ℕ → Bool
live_at painted marks k = live painted (get_or marks k 0)

-- where the search for an id begins: its first 4 bytes modulo the number of slots
unfoldable pub home_of : Id → ℕ → ℕ
home_of id cap = u32_at id 0 % cap

-- a slot number past the end goes on at the start
unfoldable pub wrap : ℕ → ℕ → ℕ
wrap cap k = cond (ltb k cap) k (k - cap)

-- the slot that a search for an id looks at after i others
abbrev pub probe : Id → ℕ → ℕ → ℕ
probe id cap i = wrap cap (home_of id cap + i)

-- a search for an id comes to slot k over slots alone of which P holds
pub record Reached (P : ℕ → Bool) (cap : ℕ) (id : Id) (k : ℕ) : Type 0 where
  pub steps : ℕ
  pub few : steps < cap
  pub ends : k ≡ probe id cap steps
  pub over : (j : ℕ) → j < steps → P (probe id cap j) ≡ true

-- slot k is a live one and holds the id x
pub record Holds (w : ℕ) (painted : Bool) (names marks : List ℕ) (cap : ℕ) (x : Id) (k : ℕ) : Type 0 where
  pub low : k < cap
  pub alive : live_at painted marks k ≡ true
  pub is : id_of w names k ≡ x

-- cap slots fit the memory
pub record Sized (w : ℕ) (names marks : List ℕ) (cap : ℕ) : Type 0 where
  pub for_marks : cap ≤ length marks
  pub for_names : w * cap ≤ length names

-- a table is right: it fits, each id is reached from its home over slots that are not empty, and stands in one slot only
pub record Table (w : ℕ) (painted : Bool) (names marks : List ℕ) (cap : ℕ) : Type 0 where
  pub sized : Sized w names marks cap
  pub reached : (k : ℕ) → k < cap → live_at painted marks k ≡ true → Reached (live_at false marks) cap (id_of w names k) k
  pub once : (j k : ℕ) → j < cap → k < cap → live_at painted marks j ≡ true → live_at painted marks k ≡ true → id_of w names j ≡ id_of w names k → j ≡ k

-- a table as a function: the mark under which it holds an id, 0 for an id that it does not hold
unfoldable pub mark_for : ℕ → Bool → List ℕ → List ℕ → ℕ → Id → ℕ
mark_for w painted names marks zero x = 0
mark_for w painted names marks (suc n) x =
    let m = mark_for w painted names marks n x in
    cond (live_at painted marks n && eq_id (id_of w names n) x) (get_or marks n 0) m

-- a table holds x under a mark of which P holds: `has painted names marks cap seen x` says that x is seen
abbrev pub has : ℕ → Bool → List ℕ → List ℕ → ℕ → (ℕ → Bool) → Id → Bool
has w painted names marks cap P x = P (mark_for w painted names marks cap x)

-- ---- the functions

-- cap slots fit the memory, there is one, and an id has its width
pub record Sizes (w : ℕ) (names marks : List ℕ) (cap : ℕ) (id : Id) : Type 0 where
  pub some-slot : 0 < cap
  pub width : length id ≡ w
  pub fits : Sized w names marks cap

-- the slot a if it is one, else b
unfoldable pub earlier : ℕ → ℕ → ℕ → ℕ
earlier cap a b = cond (ltb a cap) a b

-- slot k is where the id x goes: the first from its home on that is not live
pub record Free (w : ℕ) (painted : Bool) (names marks : List ℕ) (cap : ℕ) (x : Id) (k : ℕ) : Type 0 where
  pub sizes : Sizes w names marks cap x
  pub low : k < cap
  pub dead : live_at painted marks k ≡ false
  pub first : Reached (live_at painted marks) cap x k

-- what a search answers: a slot that holds the id, and of a right table the one that does; else where it goes; else every slot is
-- live; and Full where the sizes are wrong
pub record Finds (w : ℕ) (painted : Bool) (names marks : List ℕ) (cap : ℕ) (x : Id) (r : Slot) : Type 0 where
  pub hit : (k : ℕ) → r ≡ Found k → Holds w painted names marks cap x k
  pub all : Table w painted names marks cap → (k : ℕ) → Holds w painted names marks cap x k → r ≡ Found k
  pub free : (k : ℕ) → r ≡ Vacant k → Free w painted names marks cap x k
  pub none : Sized w names marks cap → length x ≡ w → r ≡ Full → (k : ℕ) → k < cap → live_at painted marks k ≡ true
  pub wrong : (Sizes w names marks cap x → ⊥) → r ≡ Full

-- what an insertion makes of a table: where the id is new, just its slot changes; under a live mark a table that is right stays right
pub record Inserts (w : ℕ) (painted : Bool) (names marks names' marks' : List ℕ) (cap : ℕ) (x : Id) (mark : ℕ) (r : Slot) : Type 0 where
  pub finds : Finds w painted names marks cap x r
  pub found : (k : ℕ) → r ≡ Found k → (names' ≡ names) × (marks' ≡ marks)
  pub full : r ≡ Full → (names' ≡ names) × (marks' ≡ marks)
  pub vacant : (k : ℕ) → r ≡ Vacant k → (names' ≡ set_down names (w * k) x) × (marks' ≡ set marks k mark)
  pub right : Table w painted names marks cap → live painted mark ≡ true → Table w painted names' marks' cap
  pub new : (k : ℕ) → r ≡ Vacant k → (id_of w names' k ≡ x) × (get_or marks' k 0 ≡ mark)
  pub old : (k : ℕ) → r ≡ Vacant k → (j : ℕ) → (j ≡ k → ⊥) → (id_of w names' j ≡ id_of w names j) × (get_or marks' j 0 ≡ get_or marks j 0)

-- marks whose first n are 0
unfoldable pub cleared : ℕ → List ℕ → List ℕ
cleared zero marks = marks
cleared (suc n) [] = []
cleared (suc n) (m ∷ marks) = 0 ∷ cleared n marks

-- opens every definition of this file, for theorems that compute
unfoldable pub table_all : Unit {0}
unfolding home_of wrap mark_for earlier cleared
table_all = tt
