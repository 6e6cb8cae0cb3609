-- Painting in lent memory (document 01: Painting): which marks and which queue the memory reads as, and how a part of painting ends.
-- Assumes nothing.
use Rattle.std.specs.Prelude.{ℕ, ◌≤◌, ◌<◌, ◌≡◌, true, false, length, take, get_or, ℤ, Option, Result, Ok, Err}
use Rattle.commitgraph.specs.declared.Layout.{Layout}
use mathlib.Core.List.{List, map, Memᴰ}
use Rattle.hash.specs.Bytes.{Id}
use Rattle.object.specs.Ids.{id_room}
use Rattle.odb.specs.Store.{store_is_ok}
use Rattle.commit.specs.Find.{GoodCache}
use Rattle.hashtable.specs.Marks.{visible, hidden, stale, seen}
use Rattle.hashtable.specs.Table.{id_of, live_at, Table, mark_for, has}
use Rattle.revwalk.specs.Order.{In}
use Rattle.pending.specs.Pending.{pair_at, slots_in, Right}
use Rattle.pending.specs.declared.Pending.{Pending}
use Rattle.walk.specs.Lookup.{World, Pair, good, read}
use Rattle.walk.specs.Painting.{Paint, Painting, stop, going}
use Rattle.walk.specs.declared.Refusal.{Refusal}
use Rattle.frontier.specs.declared.marking.MarkError.{MarkError}
use Rattle.frontier.specs.declared.marking.MarkError.TheVariants.{Stop, NoRoom}
use Rattle.frontier.specs.Bits.{is_painted}
use Rattle.frontier.specs.Slots.{most_slots}

-- the lent buffers that painting works in
pub record Lent : Type 0 where
  pub names : List ℕ
  pub marks : List ℕ
  pub levels : List ℕ
  pub times : List ℤ
  pub line : List ℕ

abbrev pub lent : List ℕ → List ℕ → List ℕ → List ℤ → List ℕ → Lent
lent names marks levels times line = record { names = names; marks = marks; levels = levels; times = times; line = line }

-- the two files are good
pub record Files (width : ℕ) (c : Option Layout) (g s : List ℕ) : Type 0 where
  pub store_ok : store_is_ok width s ≡ true
  pub graph-ok : GoodCache width c g
  -- an id of this width has room in a value
  pub small : width ≤ id_room

-- a queued slot as an entry of painting's queue
abbrev pub entry_at : ℕ → List ℕ → List ℕ → List ℤ → ℕ → Pair × Id
entry_at width names levels times s = (pair_at levels times s, id_of width names s)

-- the commit in slot s was read, and the slot has its pair
pub record IsKnown (width : ℕ) (w : World) (names levels : List ℕ) (times : List ℤ) (s : ℕ) : Type 0 where
  pub parents : List Id
  pub is : read w (id_of width names s) ≡ good parents (pair_at levels times s)

-- the memory m with the queue p reads as the painting st: the marks of each id, and the queue in order. A queued slot has a mark of
-- painting's, and each slot that has one was read
pub record PaintReads (width : ℕ) (w : World) (cap : ℕ) (m : Lent) (p : Pending) (st : Paint) : Type 0 where
  pub table : Table width false m.names m.marks cap
  pub for_levels : cap ≤ length m.levels
  pub for_times : cap ≤ length m.times
  pub right : Right p m.line
  pub vis : (x : Id) → st.vis x ≡ has width false m.names m.marks cap visible x
  pub hid : (x : Id) → st.hid x ≡ has width false m.names m.marks cap hidden x
  pub stale : (x : Id) → st.stale x ≡ has width false m.names m.marks cap stale x
  pub queue : st.pending ≡ map (entry_at width m.names m.levels m.times) (slots_in m.levels m.times p m.line)
  pub queued : (s : ℕ) → In s (slots_in m.levels m.times p m.line) → (s < cap) × (is_painted (get_or m.marks s 0) ≡ true)
  pub known : (s : ℕ) → s < cap → is_painted (get_or m.marks s 0) ≡ true → IsKnown width w m.names m.levels m.times s

-- what painting leaves as it was: which ids are seen, the ids in the slots that are taken, and the line below the queue's memory
pub record Spares (width : ℕ) (cap base : ℕ) (m m' : Lent) : Type 0 where
  pub seen_same : (x : Id) → has width false m'.names m'.marks cap seen x ≡ has width false m.names m.marks cap seen x
  pub taken : (s : ℕ) → s < cap → live_at false m.marks s ≡ true → (live_at false m'.marks s ≡ true) × (id_of width m'.names s ≡ id_of width m.names s)
  pub below : take base m'.line ≡ take base m.line

-- room for ids: u has every id of the table, and there is a slot for each id of u
pub record Named (width : ℕ) (cap : ℕ) (u : List Id) (m : Lent) : Type 0 where
  pub few : length u ≤ cap
  pub small : cap ≤ most_slots
  pub inside : (y : Id) → (mark_for width false m.names m.marks cap y ≡ 0 → ⊥) → Memᴰ y u

-- room for the queue: where a painting goes on, at most k are queued
abbrev pub Short : ℕ → Painting → Type 0
Short k a = (st : Paint) → a ≡ going st → length st.pending ≤ k

-- ---- how a part of painting that comes to a ends, begun at the memory m and the queue p

-- it goes on
pub record Goes (width : ℕ) (w : World) (cap : ℕ) (u : List Id) (p : Pending) (m m' : Lent) (p' : Pending) (a : Painting) : Type 0 where
  pub state : Paint
  pub is : a ≡ going state
  pub reads : PaintReads width w cap m' p' state
  pub named : Named width cap u m'
  pub spares : Spares width cap p.base m m'
  pub base : p'.base ≡ p.base
  pub end : p'.end ≡ p.end

-- it is ended by a refusal
pub record Stops (width : ℕ) (cap : ℕ) (p : Pending) (m m' : Lent) (n : Refusal) (a : Painting) : Type 0 where
  pub is : a ≡ stop n
  pub table : Table width false m'.names m'.marks cap
  pub spares : Spares width cap p.base m m'

-- how it ends, as the code answers: with the queue then, or with why it does not go on
abbrev pub Marked : Type 0
Marked = Result Pending MarkError

-- by the answer; where there is room, no answer says that there is none
abbrev pub Ends : ℕ → World → ℕ → List Id → Pending → Lent → Lent → Marked → Painting → Type 0
Ends width w cap u p m m' (Ok p') a = Goes width w cap u p m m' p' a
Ends width w cap u p m m' (Err (Stop n)) a = Stops width cap p m m' n a
Ends width w cap u p m m' (Err NoRoom) a = ⊥
