-- The tips of an opening one after another, and what the functions of an opening promise (document 01: Opening). Assumes nothing.
use Rattle.std.specs.Prelude.{ℕ, suc, ◌/◌, ◌≤◌, ◌<◌, ◌≡◌, true, false, cond, ◌||◌, length, ℤ, pos, Err, None, Ok, Option, Result, Some}
use Rattle.date.specs.declared.Seconds.{Seconds}
use mathlib.Core.List.{List, [], ◌∷◌, Memᴰ}
use Rattle.hash.specs.Bytes.{Id, width_of, among}
use Rattle.odb.specs.Store.{store_is_ok}
use Rattle.walk.specs.declared.Sorting.{Sorting}
use Rattle.walk.specs.declared.Refusal.{Refusal}
use Rattle.walk.specs.Settings.{timed, cutoff_of, not_before}
use Rattle.walk.specs.Lookup.{World, world_of}
use Rattle.walk.specs.State.{Walk, State, empty_state, sees, waits}
use Rattle.walk.specs.Opening.{Input, list_ids, P, walk_of, refusal, closed, opened, width_in}
use Rattle.walk.specs.Given.{open_given}
use Rattle.reading.specs.declared.tip.TipError.{TipError}
use Rattle.reading.specs.Tip.{tip_of}
use Rattle.state.specs.declared.Record.{Record}
use Rattle.state.specs.Reads.{Memory, Shape, Reads, Universe, closed_record}
use Rattle.state.specs.declared.Fixed.{Fixed}
use Rattle.state.specs.Shapes.{shape_for, shape_of}
use Rattle.state.specs.Steps as steps
use Rattle.traverse.specs.declared.Opened.{Opened}
use Rattle.traverse.specs.Contract.{Lent}

abbrev pub lent_of : List ℕ → List ℕ → List ℕ → List ℤ → List ℕ → List ℕ → Lent
lent_of names marks levels times line parents = record { memory = steps.mem names marks times line; levels = levels; parents = parents }

-- ---- one tip of the walk

-- "under a cutoff it stays if seconds ≥ cutoff", of a tip that reads so; one that cannot be read refuses the opening before
abbrev pub read_as : Sorting → Result Seconds TipError → Option Seconds
read_as o (Ok s) = cond (not_before (cutoff_of o) s.0) (Some s) None
read_as o (Err e) = None

-- "Under a time order each remaining tip is read from the book alone"
unfoldable pub admission_of : World → Sorting → Id → Option Seconds
admission_of w o x = cond (timed o) (read_as o (tip_of (w.store x))) (Some (record { 0 = pos 0 }))

abbrev pub in_as : Walk → State → Id → Option Seconds → State
in_as w st x (Some t) = waits w st x t.0
in_as w st x None = sees st x

-- "Tips lose repeats and barred ids; the rest are seen"
unfoldable pub tip_in : Walk → State → Id → State
tip_in w st x = cond (among x w.excluded || st.seen x) st (in_as w st x (admission_of w.world w.settings.sorting x))

unfoldable pub tips_all : Walk → List Id → State → State
tips_all w [] st = st
tips_all w (x ∷ xs) st = tips_all w xs (tip_in w st x)

-- ---- what the functions promise

-- while tips come in: nothing is painted, k tips were met, and every seen id is one of u
pub record Early (sh : Shape) (u : List Id) (k : ℕ) (r : Record) (m : Memory) (st : State) : Type 0 where
  pub reads : Reads r m sh st
  pub unfailed : r.failed ≡ false
  pub few : st.admitted ≤ k
  pub universe : Universe sh st u
  pub unpainted : (x : Id) → st.frontier x ≡ false

pub record SameLengths (m m' : Memory) : Type 0 where
  pub names : length m'.names ≡ length m.names
  pub marks : length m'.marks ≡ length m.marks
  pub times : length m'.times ≡ length m.times
  pub line : length m'.line ≡ length m.line

-- nothing is changed
pub record Kept (r : Record) (times times' : List ℤ) (line line' : List ℕ) (r' : Record) : Type 0 where
  pub same_record : r' ≡ r
  pub same-times : times' ≡ times
  pub same_line : line' ≡ line

-- add_to_queue, with its answer r'
pub record Admits (r : Record) (times times' : List ℤ) (line line' : List ℕ) (a : Option ℕ) (how : Option Seconds) (r' : Record) : Type 0 where
  pub long-times : length times' ≡ length times
  pub long-line : length line' ≡ length line
  pub repeat : a ≡ None → Kept r times times' line line' r'
  pub turned : how ≡ None → Kept r times times' line line' r'
  pub joins : (slot : ℕ) → a ≡ Some slot → (t : ℤ) → how ≡ Some (record { 0 = t }) → steps.Waits r times times' line line' slot t r'

-- a walk over these files, with ids so wide
abbrev pub Over : ℕ → List ℕ → List ℕ → Sorting → Walk → Type 0
Over width store excluded o w = (graph : List ℕ) × (w.world ≡ world_of width store graph) × (w.excluded ≡ list_ids width excluded) × (w.settings.sorting ≡ o)

-- take_tip, with its answer r': the tip x has come in, where there is room for all ids of u
pub record TakesTip (width : ℕ) (store excluded : List ℕ) (o : Sorting) (m m' : Memory) (x : Id) (r r' : Record) : Type 0 where
  pub long : SameLengths m m'
  pub taken : (w : Walk) (n : ℕ) (f : Fixed) (k : ℕ) (u : List Id) (st : State) → width_of f.kind ≡ width → store_is_ok width store ≡ true → Over width store excluded o w → length x ≡ width → Memᴰ x u → n ≤ 1048576 → k < 1048576
      → Early (shape_for w.settings n f) u k r m st → Early (shape_for w.settings n f) u (suc k) r' m' (tip_in w st x)

-- filtered, with its answer r': all tips have come in
pub record TakesTips (width : ℕ) (store tips excluded : List ℕ) (o : Sorting) (m m' : Memory) (r r' : Record) : Type 0 where
  pub long : SameLengths m m'
  pub taken : (w : Walk) (n : ℕ) (f : Fixed) (st : State) → width_of f.kind ≡ width → store_is_ok width store ≡ true → Over width store excluded o w → n ≤ 1048576
      → Early (shape_for w.settings n f) (list_ids width tips) 0 r m st → Early (shape_for w.settings n f) (list_ids width tips) (length tips / width) r' m' (tips_all w (list_ids width tips) st)

-- fill, with its answer r': the memory reads as the walk's first state
pub record Fills (i : Input) (m m' : Memory) (r' : Record) : Type 0 where
  pub long : SameLengths m m'
  pub filled : refusal i ≡ None → steps.Lent (width_in i) m.names m.marks m.times m.line (P i)
      → Reads r' m' (shape_of i) (tips_all (walk_of i) (list_ids (width_in i) i.tips) empty_state)

pub record Refuses (r : Refusal) (o : Opened) : Type 0 where
  pub answer : o.answer ≡ open_given (closed r)
  pub shut : o.record ≡ closed_record

-- an accepted opening tells the running numbers of the state that its memory reads as
pub record Accepts (r : Record) (o : Opened) : Type 0 where
  pub same : o.record ≡ r
  pub answer : (m : Memory) (sh : Shape) (st : State) → Reads r m sh st → o.answer ≡ open_given (opened st)
