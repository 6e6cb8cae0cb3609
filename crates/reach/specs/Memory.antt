-- The search in lent memory: which list of ids the memory reads as, and what noting ids does. Assumes nothing.
use Rattle.std.specs.Prelude.{ℕ, ◌+◌, ◌≤◌, ◌<◌, ◌≡◌, Bool, true, false, not, List, [], ◌∷◌, length, get_or, set, None, Option, Some}
use Rattle.hash.specs.Bytes.{Id}
use Rattle.object.specs.Header.{Header}
use Rattle.hashtable.specs.Marks.{visible, hidden, with_visible, with_hidden}
use Rattle.hashtable.specs.Table.{Holds, Table, mark_for, Finds}
use Rattle.hashtable.specs.declared.table.Slot.TheVariants.{Full as TableFull}
use Rattle.walk.specs.Reach.{Mem, NoDup}
use Rattle.reach.specs.declared.notes.Marking.{Marking}
use Rattle.reach.specs.declared.notes.Marking.TheVariants.{Fresh, Known, Full}
use Rattle.reach.specs.Search.{Grows}

-- slot numbers that fit a u32
abbrev pub most_slots : ℕ
most_slots = 4294967296

-- ---- the mark of a search

-- VISIBLE, and HIDDEN for a second search in the same table
unfoldable pub has_bit : Bool → ℕ → Bool
has_bit true m = hidden m
has_bit false m = visible m

unfoldable pub with_bit : Bool → ℕ → ℕ
with_bit true m = with_hidden m
with_bit false m = with_visible m

-- ---- the lent memory

-- the lent buffers that a search works in
pub record Lent : Type 0 where
  pub names : List ℕ
  pub marks : List ℕ
  pub line : List ℕ

abbrev pub lent : List ℕ → List ℕ → List ℕ → Lent
lent names marks line = record { names = names; marks = marks; line = line }

-- the mark of an id
abbrev pub mark_in : ℕ → ℕ → Lent → Id → ℕ
mark_in width cap m x = mark_for width false m.names m.marks cap x

-- slot k holds x
abbrev pub In : ℕ → ℕ → Lent → Id → ℕ → Type 0
In width cap m x k = Holds width false m.names m.marks cap x k

-- the n slots of line[from .. from + n) hold the ids of l in order, and the search has marked these ids and no others
pub record Lists (width : ℕ) (second : Bool) (cap from : ℕ) (m : Lent) (n : ℕ) (l : List Id) : Type 0 where
  pub table : Table width false m.names m.marks cap
  pub room : from + cap ≤ length m.line
  pub count : length l ≡ n
  pub once : NoDup l
  pub slots : (i : ℕ) → i < n → In width cap m (get_or l i []) (get_or m.line (from + i) 0)
  pub marked : (x : Id) → Mem x l → has_bit second (mark_in width cap m x) ≡ true
  pub all : (x : Id) → has_bit second (mark_in width cap m x) ≡ true → Mem x l

-- room for ids: u has every id of the table, and there is a slot for each id of u
pub record Named (width : ℕ) (cap : ℕ) (u : List Id) (m : Lent) : Type 0 where
  pub few : length u ≤ cap
  pub small : cap ≤ most_slots
  pub inside : (y : Id) → (mark_in width cap m y ≡ 0 → ⊥) → Mem y u

-- what a search leaves as it was: the other search's marks, the slots that hold ids, and the line below
pub record Spares (width : ℕ) (second : Bool) (cap from : ℕ) (m m' : Lent) : Type 0 where
  pub other_bit : (y : Id) → has_bit (not second) (mark_in width cap m' y) ≡ has_bit (not second) (mark_in width cap m y)
  pub stays : (y : Id) (k : ℕ) → In width cap m y k → In width cap m' y k
  pub below : (j : ℕ) → j < from → get_or m'.line j 0 ≡ get_or m.line j 0

-- ---- one id in the table

abbrev pub fresh_at : ℕ → Marking
fresh_at k = Fresh k

-- what `raise` does
pub record Raises (second : Bool) (marks marks' : List ℕ) (slot : ℕ) (r : Marking) : Type 0 where
  pub known : has_bit second (get_or marks slot 0) ≡ true → (r ≡ Known) × (marks' ≡ marks)
  pub given : has_bit second (get_or marks slot 0) ≡ false → (slot < most_slots → r ≡ Fresh slot) × (marks' ≡ set marks slot (with_bit second (get_or marks slot 0)))

-- the id x has gained the mark and stands in slot k; all other ids are as they were
pub record Gained (width : ℕ) (second : Bool) (names marks names' marks' : List ℕ) (cap : ℕ) (x : Id) (k : ℕ) : Type 0 where
  pub lacked : has_bit second (mark_for width false names marks cap x) ≡ false
  pub table : Table width false names' marks' cap
  pub holds : Holds width false names' marks' cap x k
  pub this : mark_for width false names' marks' cap x ≡ with_bit second (mark_for width false names marks cap x)
  pub other : (y : Id) → (y ≡ x → ⊥) → mark_for width false names' marks' cap y ≡ mark_for width false names marks cap y
  pub stays : (y : Id) (j : ℕ) → Holds width false names marks cap y j → Holds width false names' marks' cap y j

abbrev pub ToldMark : ℕ → Bool → List ℕ → List ℕ → List ℕ → List ℕ → ℕ → Id → Marking → Type 0
ToldMark width second names marks names' marks' cap x (Fresh k) = Gained width second names marks names' marks' cap x k
ToldMark width second names marks names' marks' cap x Known = (has_bit second (mark_for width false names marks cap x) ≡ true) × (names' ≡ names) × (marks' ≡ marks)
ToldMark width second names marks names' marks' cap x Full = Finds width false names marks cap x TableFull

-- what `mark_id` makes of a right table
pub record MarksId (width : ℕ) (second : Bool) (names marks names' marks' : List ℕ) (cap : ℕ) (x : Id) (r : Marking) : Type 0 where
  pub right : Table width false names marks cap → cap ≤ most_slots → ToldMark width second names marks names' marks' cap x r

-- what `put` does
pub record Puts (line line' : List ℕ) (from n slot : ℕ) (r : Option ℕ) : Type 0 where
  pub right : from + n < length line → (r ≡ Some (n + 1)) × (line' ≡ set line (from + n) slot)

-- ---- ids are noted

-- the ids xs were noted, and the line has n' slots
pub record Went (width : ℕ) (second : Bool) (cap from : ℕ) (u : List Id) (m m' : Lent) (l xs : List Id) (n' : ℕ) : Type 0 where
  pub list : List Id
  pub grows : Grows l xs list
  pub lists : Lists width second cap from m' n' list
  pub named : Named width cap u m'
  pub spares : Spares width second cap from m m'

-- by the answer; where there is room, no answer says that there is none
abbrev pub Told : ℕ → Bool → ℕ → ℕ → List Id → Lent → Lent → List Id → List Id → Option ℕ → Type 0
Told width second cap from u m m' l xs (Some n') = Went width second cap from u m m' l xs n'
Told width second cap from u m m' l xs None = ⊥

-- what `note` does, where u has the id
pub record Notes (width : ℕ) (second : Bool) (cap from : ℕ) (m m' : Lent) (n : ℕ) (x : Id) (r : Option ℕ) : Type 0 where
  pub right : (u l : List Id) → Lists width second cap from m n l → Named width cap u m → length x ≡ width → Mem x u → Told width second cap from u m m' l (x ∷ []) r

-- the same after an answer: where there is no room, nothing is done
abbrev pub NotedAfter : ℕ → Bool → ℕ → ℕ → Lent → Lent → Option ℕ → Id → Option ℕ → Type 0
NotedAfter width second cap from m m' (Some n) x r = Notes width second cap from m m' n x r
NotedAfter width second cap from m m' None x r = (m' ≡ m) × (r ≡ None)

pub record NotesNext (width : ℕ) (second : Bool) (cap from : ℕ) (m m' : Lent) (past : Option ℕ) (x : Id) (r : Option ℕ) : Type 0 where
  pub does : NotedAfter width second cap from m m' past x r

-- a list of ids, one after another
abbrev pub AllNoted : ℕ → Bool → ℕ → ℕ → Lent → Lent → Option ℕ → List Id → Option ℕ → Type 0
AllNoted width second cap from m m' (Some n) xs r = (u l : List Id) → Lists width second cap from m n l → Named width cap u m → ((x : Id) → Mem x xs → Mem x u) → Told width second cap from u m m' l xs r
AllNoted width second cap from m m' None xs r = (m' ≡ m) × (r ≡ None)

pub record NotesAll (width : ℕ) (second : Bool) (cap from : ℕ) (m m' : Lent) (past : Option ℕ) (xs : List Id) (r : Option ℕ) : Type 0 where
  pub does : AllNoted width second cap from m m' past xs r

-- what `note_one` does: an id of the width is noted, and it is parent k of a header with a good tree line, where there is one
pub record NotesOne (width : ℕ) (second : Bool) (cap from : ℕ) (h : Header) (m m' : Lent) (n k : ℕ) (r : Option ℕ) : Type 0 where
  pub id : Id
  pub is : h.tree ≡ true → k < length h.ids → id ≡ get_or h.ids k []
  pub wide : length id ≡ width
  pub notes : Notes width second cap from m m' n id r

-- the parents of a header with a good tree line, of which there are c, are noted after the n of the line
pub record NotesParents (width : ℕ) (second : Bool) (cap from : ℕ) (h : Header) (m m' : Lent) (n c : ℕ) (r : Option ℕ) : Type 0 where
  pub right : h.tree ≡ true → c ≡ length h.ids → AllNoted width second cap from m m' (Some n) h.ids r
