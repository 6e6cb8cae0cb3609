-- All of painting: `paint` of the walk, told of the lent memory (document 01: Painting). Assumes nothing.
use Rattle.std.specs.Prelude.{ℕ, ◌+◌, ◌*◌, ◌≤◌, ◌<◌, ◌≡◌, true, false, length, get_or, Option}
use Rattle.commitgraph.specs.declared.Layout.{Layout}
use mathlib.Core.List.{List, map, Memᴰ}
use Rattle.std.proofs.Math.Seq.{slice}
use Rattle.hash.specs.Bytes.{Id}
use Rattle.hashtable.specs.Marks.{seen}
use Rattle.hashtable.specs.Table.{id_of, live_at, Table}
use Rattle.revwalk.specs.Order.{In}
use Rattle.revwalk.specs.Queue.{GoodQueue, slots_of}
use Rattle.pending.specs.declared.Pending.{Pending}
use Rattle.revwalk.specs.declared.queue.Queue.{Queue}
use Rattle.walk.specs.Lookup.{World, read, parents_of}
use Rattle.walk.specs.Painting.{Painting, then, VISIBLE, HIDDEN, mark_all, unpainted, sorted, paint}
use Rattle.reading.specs.Files.{world_under}
use Rattle.frontier.specs.Paint.{Marked, Lent, Files, PaintReads, Named, Ends}
use Rattle.frontier.specs.Lists.{ids_in}

-- a queue that may reach down to another place
abbrev pub lowered_to : ℕ → Pending → Pending
lowered_to base p = record { base = base; low = p.low; high = p.high; start = p.start; end = p.end }

-- painting's queue, empty, in line[base .. end)
abbrev pub empty_in : ℕ → ℕ → Pending
empty_in base end = record { base = base; low = base; high = base; start = end; end = end }

-- the same in line[2 · cap .. 5 · cap)
abbrev pub start_of : ℕ → Pending
start_of cap = empty_in (2 * cap) (5 * cap)

-- cap slots are enough: for the two lists and every id that is a parent, repeats counted; and u has them all
pub record Ample (w : World) (cap : ℕ) (u waiting hidden : List Id) : Type 0 where
  pub parents : List Id
  pub short : length waiting + length hidden + length parents ≤ cap
  pub each-parent : (x y : Id) → Memᴰ y (parents_of (read w x)) → Memᴰ y parents
  pub waiting_in : (x : Id) → Memᴰ x waiting → Memᴰ x u
  pub hidden_in : (x : Id) → Memᴰ x hidden → Memᴰ x u
  pub parents_in : (x y : Id) → Memᴰ y (parents_of (read w x)) → Memᴰ y u

-- the ids of the commits that wait, in order
abbrev pub waiting_ids : ℕ → Queue → Lent → List Id
waiting_ids width q m = map (id_of width m.names) (slots_of q m.times m.line)

-- painting may begin: the memory is large enough and has a right table and a right queue, each slot that is taken is a seen one, so is
-- each that waits, and cap slots are enough
pub record MayPaint (width : ℕ) (w : World) (cap : ℕ) (u : List Id) (m : Lent) (q : Queue) (hidden : List Id) : Type 0 where
  pub table : Table width false m.names m.marks cap
  pub for_levels : cap ≤ length m.levels
  pub for_times : cap ≤ length m.times
  pub for_line : 5 * cap ≤ length m.line
  pub queue-cap : q.cap ≡ cap
  pub good : GoodQueue q m.times m.line
  pub only_seen : (k : ℕ) → k < cap → live_at false m.marks k ≡ true → seen (get_or m.marks k 0) ≡ true
  pub waits-seen : (s : ℕ) → In s (slots_of q m.times m.line) → seen (get_or m.marks s 0) ≡ true
  pub named : Named width cap u m
  pub ample : Ample w cap u (waiting_ids width q m) hidden

-- what `paint` does: `paint`, with as many turns as a walk's fuel
pub record Paints (width : ℕ) (c : Option Layout) (g s : List ℕ) (cap : ℕ) (m m' : Lent) (q : Queue) (hidden : List Id) (r : Marked) : Type 0 where
  pub right : Files width c g s → (u : List Id) → MayPaint width (world_under width c g s) cap u m q hidden
      → Ends width (world_under width c g s) cap u (start_of cap) m m' r (paint (world_under width c g s) (4 * cap) (waiting_ids width q m) hidden)

-- ---- the inner functions

-- painting may go on from slots in the line: no id has a mark of painting's, and the slots have the waiting ids by rising id
pub record MayStart (width : ℕ) (w : World) (cap : ℕ) (u : List Id) (m : Lent) (n : ℕ) (waiting hidden : List Id) : Type 0 where
  pub reads : PaintReads width w cap m (start_of cap) unpainted
  pub named : Named width cap u m
  pub ids : ids_in width m (2 * cap) n ≡ sorted waiting
  pub taken : (s : ℕ) → In s (slice (2 * cap) (2 * cap + n) m.line) → (s < cap) × (live_at false m.marks s ≡ true)
  pub ample : Ample w cap u waiting hidden

-- the marks that painting begins with: VISIBLE for the commits that wait, by rising id, and HIDDEN for the hidden tips
abbrev pub inputs_marked : World → List Id → List Id → Painting
inputs_marked w waiting hidden = then (mark_all w VISIBLE (sorted waiting) unpainted) (λ st. mark_all w HIDDEN hidden st)

-- what `mark_inputs` does
pub record MarksInputs (width : ℕ) (c : Option Layout) (g s : List ℕ) (cap : ℕ) (m m' : Lent) (n : ℕ) (hidden : List Id) (r : Marked) : Type 0 where
  pub right : Files width c g s → (u waiting : List Id) → MayStart width (world_under width c g s) cap u m n waiting hidden
      → Ends width (world_under width c g s) cap u (start_of cap) m m' r (inputs_marked (world_under width c g s) waiting hidden)

-- what `paint_from` does
pub record PaintsFrom (width : ℕ) (c : Option Layout) (g s : List ℕ) (cap : ℕ) (m m' : Lent) (n : ℕ) (hidden : List Id) (r : Marked) : Type 0 where
  pub right : Files width c g s → (u waiting : List Id) → MayStart width (world_under width c g s) cap u m n waiting hidden
      → Ends width (world_under width c g s) cap u (start_of cap) m m' r (paint (world_under width c g s) (4 * cap) waiting hidden)
