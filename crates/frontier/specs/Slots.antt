-- What giving marks to an id makes of the id table. Assumes nothing.
use Rattle.std.specs.Prelude.{ℕ, ◌≤◌, ◌<◌, ◌≡◌, Bool, true, false, List, get_or}
use Rattle.hash.specs.Bytes.{Id}
use Rattle.hashtable.specs.Table.{id_of, live_at, Holds, Table, mark_for, Finds}
use Rattle.hashtable.specs.declared.table.Slot.{Slot}
use Rattle.hashtable.specs.declared.table.Slot.TheVariants.{Full as TableFull}
use Rattle.frontier.specs.declared.slots.Added.{Added}
use Rattle.frontier.specs.declared.slots.Added.TheVariants.{New, Known, Full}
use Rattle.frontier.specs.Bits.{is_painted, with_bits}

-- slot numbers that fit a u32
abbrev pub most_slots : ℕ
most_slots = 4294967296

-- the id x has gained the marks of `bits` and stands in slot k; all other ids and slots are as they were
pub record Gained (width : ℕ) (names marks names' marks' : List ℕ) (cap : ℕ) (x : Id) (bits k : ℕ) : Type 0 where
  pub table : Table width false names' marks' cap
  pub holds : Holds width false names' marks' cap x k
  pub was : get_or marks k 0 ≡ mark_for width false names marks cap x
  pub this : mark_for width false names' marks' cap x ≡ with_bits bits (mark_for width false names marks cap x)
  pub other : (y : Id) → (y ≡ x → ⊥) → mark_for width false names' marks' cap y ≡ mark_for width false names marks cap y
  pub apart : (s : ℕ) → (s ≡ k → ⊥) → get_or marks' s 0 ≡ get_or marks s 0
  pub taken : (s : ℕ) → s < cap → live_at false marks s ≡ true → id_of width names' s ≡ id_of width names s

-- a slot as an answer: known to painting, or new to it
abbrev pub added_at : Bool → ℕ → Added
added_at true k = Known k
added_at false k = New k

-- what an answer says: in which slot the id stands, and whether it had a mark of painting's; or that there is no slot for it
abbrev pub ToldAdded : ℕ → List ℕ → List ℕ → List ℕ → List ℕ → ℕ → Id → ℕ → Added → Type 0
ToldAdded width names marks names' marks' cap x bits (New k) = Gained width names marks names' marks' cap x bits k × (is_painted (get_or marks k 0) ≡ false)
ToldAdded width names marks names' marks' cap x bits (Known k) = Gained width names marks names' marks' cap x bits k × (is_painted (get_or marks k 0) ≡ true)
ToldAdded width names marks names' marks' cap x bits Full = Finds width false names marks cap x TableFull

-- what giving marks to an id makes of a right table
pub record AddsMark (width : ℕ) (names marks names' marks' : List ℕ) (cap : ℕ) (x : Id) (bits : ℕ) (r : Added) : Type 0 where
  pub right : Table width false names marks cap → is_painted bits ≡ true → cap ≤ most_slots → ToldAdded width names marks names' marks' cap x bits r

-- what `add_mark` does with the slot that a search for the id answered, in a table of any number of slots
pub record AddsMarkAt (width : ℕ) (names marks names' marks' : List ℕ) (x : Id) (s : Slot) (bits : ℕ) (r : Added) : Type 0 where
  pub right : (cap : ℕ) → Finds width false names marks cap x s → AddsMark width names marks names' marks' cap x bits r
