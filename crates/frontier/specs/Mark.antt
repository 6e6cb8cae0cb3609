-- What giving marks to one commit does (`mark` of the walk's painting), told of the lent memory. Assumes nothing.
use Rattle.std.specs.Prelude.{ℕ, ◌-◌, ◌≤◌, ◌≡◌, ◌⊎◌, Bool, true, false, cond, length, take, get_or, set, ℤ, Option, Result, Ok, Err}
use Rattle.commitgraph.specs.declared.Layout.{Layout}
use mathlib.Core.List.{List, Memᴰ}
use Rattle.hash.specs.Bytes.{Id}
use Rattle.hashtable.specs.Table.{Table, mark_for, Finds}
use Rattle.hashtable.specs.declared.table.Slot.{Slot}
use Rattle.hashtable.specs.declared.table.Slot.TheVariants.{Full as TableFull}
use Rattle.pending.specs.Pending.{Room, Entered}
use Rattle.pending.specs.declared.Pending.{Pending}
use Rattle.walk.specs.Lookup.{World, Pair, fail, good, read}
use Rattle.walk.specs.Painting.{Paint, Painting, going, Marks, mark, lacks}
use Rattle.reading.specs.Files.{world_under}
use Rattle.frontier.specs.declared.marking.MarkError.{MarkError}
use Rattle.frontier.specs.declared.marking.MarkError.TheVariants.{Stop, NoRoom}
use Rattle.frontier.specs.declared.slots.Added.{Added}
use Rattle.frontier.specs.Bits.{is_painted, marks_of, lacks_bits}
use Rattle.frontier.specs.Slots.{most_slots, Gained, AddsMark}
use Rattle.frontier.specs.Paint.{Marked, Lent, lent, Files, PaintReads, Named, Short, Ends}

-- ---- a commit is read

-- the slot of an id that gained marks, or why painting does not go on
abbrev pub Spot : Type 0
Spot = Result ℕ MarkError

-- the commit x was read, and its pair set down in slot k
pub record PairSet (w : World) (levels : List ℕ) (times : List ℤ) (levels' : List ℕ) (times' : List ℤ) (x : Id) (k : ℕ) : Type 0 where
  pub parents : List Id
  pub pair : Pair
  pub is : read w x ≡ good parents pair
  pub level_set : levels' ≡ set levels k pair.generation
  pub time_set : times' ≡ set times k pair.time

abbrev pub ToldLearned : World → List ℕ → List ℤ → List ℕ → List ℤ → Id → ℕ → Spot → Type 0
ToldLearned w levels times levels' times' x k (Ok j) = (j ≡ k) × PairSet w levels times levels' times' x k
ToldLearned w levels times levels' times' x k (Err (Stop n)) = read w x ≡ fail n
ToldLearned w levels times levels' times' x k (Err NoRoom) = ⊥

-- what `learn` does
pub record Learns (width : ℕ) (c : Option Layout) (g s levels : List ℕ) (times : List ℤ) (levels' : List ℕ) (times' : List ℤ) (x : Id) (k : ℕ) (r : Spot) : Type 0 where
  pub right : Files width c g s → ToldLearned (world_under width c g s) levels times levels' times' x k r

-- ---- an id gains marks in a slot

-- a slot that had a mark of painting's keeps its pair; one that had none gets it: "A commit is read when it first gets a mark"
abbrev pub Paired : World → List ℕ → List ℕ → List ℤ → List ℕ → List ℤ → Id → ℕ → Type 0
Paired w marks levels times levels' times' x k =
    ((is_painted (get_or marks k 0) ≡ true) × (levels' ≡ levels) × (times' ≡ times)) ⊎ ((is_painted (get_or marks k 0) ≡ false) × PairSet w levels times levels' times' x k)

module _ (width : ℕ) (w : World) (names marks levels : List ℕ) (times : List ℤ) (names' marks' levels' : List ℕ) (times' : List ℤ) (cap : ℕ) (x : Id) (bits : ℕ) where
  abbrev pub ToldPlaced : Spot → Type 0
  ToldPlaced (Ok k) = Gained width names marks names' marks' cap x bits k × Paired w marks levels times levels' times' x k
  ToldPlaced (Err (Stop n)) = (read w x ≡ fail n) × ((k : ℕ) × Gained width names marks names' marks' cap x bits k)
  ToldPlaced (Err NoRoom) = Finds width false names marks cap x TableFull

-- an id gains marks, and its commit is read where these are the first
pub record Places (width : ℕ) (c : Option Layout) (g s names marks levels : List ℕ) (times : List ℤ) (names' marks' levels' : List ℕ) (times' : List ℤ) (cap : ℕ) (x : Id) (bits : ℕ) (r : Spot) : Type 0 where
  pub right : Files width c g s → Table width false names marks cap → is_painted bits ≡ true → cap ≤ most_slots
      → ToldPlaced width (world_under width c g s) names marks levels times names' marks' levels' times' cap x bits r

-- what `place` does for an id that gained marks, as a says
pub record PlacesAdded (width : ℕ) (c : Option Layout) (g s levels : List ℕ) (times : List ℤ) (levels' : List ℕ) (times' : List ℤ) (x : Id) (a : Added) (r : Spot) : Type 0 where
  pub right : (names marks names' marks' : List ℕ) (cap bits : ℕ) → AddsMark width names marks names' marks' cap x bits a
      → Places width c g s names marks levels times names' marks' levels' times' cap x bits r

-- ---- its slot is queued

-- what `queue_slot` does
pub record Queues (levels : List ℕ) (times : List ℤ) (slot : ℕ) (p : Pending) (line line' : List ℕ) (r : Marked) : Type 0 where
  pub long : length line' ≡ length line
  pub below : take p.base line' ≡ take p.base line
  pub room : Room p line → (q : Pending) × (r ≡ Ok q) × Entered levels times slot p line q line'

-- ---- all of it

-- a step of painting for one commit, with the marks that it may give
abbrev pub Step : Type 0
Step = World → Marks → Id → Paint → Painting

-- the step for a commit x that is to come to a may be taken with the marks of `bits`: there is one, and there is room in the table and in the queue
pub record MayStep (width : ℕ) (w : World) (cap : ℕ) (u : List Id) (m : Lent) (p : Pending) (x : Id) (bits : ℕ) (st : Paint) (a : Painting) : Type 0 where
  pub reads : PaintReads width w cap m p st
  pub named : Named width cap u m
  pub in_u : Memᴰ x u
  pub wide : length x ≡ width
  pub some-mark : is_painted bits ≡ true
  pub room : Short (p.end - p.base) a

-- the step is taken for the commit x: `mark_one` takes the step `mark`, `pass_one` the step `pass_to`
pub record Takes (width : ℕ) (step : Step) (c : Option Layout) (g s : List ℕ) (cap : ℕ) (m m' : Lent) (p : Pending) (x : Id) (bits : ℕ) (r : Marked) : Type 0 where
  pub right : Files width c g s → (u : List Id) (st : Paint) → MayStep width (world_under width c g s) cap u m p x bits st (step (world_under width c g s) (marks_of bits) x st)
      → Ends width (world_under width c g s) cap u p m m' r (step (world_under width c g s) (marks_of bits) x st)

-- what `queue_added` does for an id that gained marks, as a says: with that it is the step `mark`
pub record TakesAdded (width : ℕ) (c : Option Layout) (g s levels : List ℕ) (times : List ℤ) (line levels' : List ℕ) (times' : List ℤ) (line' : List ℕ) (p : Pending) (x : Id) (a : Added) (r : Marked) : Type 0 where
  pub right : (names marks names' marks' : List ℕ) (cap bits : ℕ) → AddsMark width names marks names' marks' cap x bits a
      → Takes width mark c g s cap (lent names marks levels times line) (lent names' marks' levels' times' line') p x bits r

-- "each parent lacking a passed mark gets them and is queued": one parent
unfoldable pub pass_to : World → Marks → Id → Paint → Painting
pass_to w m x st = cond (lacks m x st) (mark w m x st) (going st)

-- whether an id lacks a mark of `bits`
pub record LacksMark (width : ℕ) (names marks : List ℕ) (cap : ℕ) (x : Id) (bits : ℕ) (r : Bool) : Type 0 where
  pub right : Table width false names marks cap → r ≡ lacks_bits bits (mark_for width false names marks cap x)

-- what `is_lacking` says of the slot that a search for an id answered
pub record LacksMarkAt (marks : List ℕ) (s : Slot) (bits : ℕ) (r : Bool) : Type 0 where
  pub right : (width : ℕ) (names : List ℕ) (cap : ℕ) (x : Id) → Finds width false names marks cap x s → LacksMark width names marks cap x bits r
