-- What the steps on a state in lent memory promise: for every state that the memory reads as before, the state that it reads as after.
-- On any other bytes and numbers the lengths stay, and the line from 2 · cap on. Assumes nothing.
use Rattle.std.specs.Prelude.{ℕ, ◌+◌, ◌*◌, ◌≤◌, ◌<◌, ◌≡◌, Bool, true, false, cond, ◌||◌, length, get_or, ℤ, pos, Option, Some, None}
use mathlib.Core.List.{List, [], ◌∷◌, Memᴰ}
use Rattle.hash.specs.Bytes.{Id, width_of}
use Rattle.hashtable.specs.Marks.{seen}
use Rattle.hashtable.specs.Table.{id_of, cleared}
use Rattle.object.specs.Ids.{id_in}
use Rattle.revwalk.specs.Order.{In}
use Rattle.walk.specs.State.{State, empty_state, sees, with_queue}
use Rattle.walk.specs.Next.{dropped}
use Rattle.state.specs.declared.Fixed.{Fixed}
use Rattle.state.specs.declared.Record.{Record}
use Rattle.state.specs.declared.Waiting.{Waiting}
use Rattle.state.specs.declared.Next.{Next}
use Rattle.state.specs.Reads.{Memory, Shape, memory_width, entry_of, waiting, Reads, Universe}
use Rattle.state.specs.Shapes.{before_of, joins, back_to, fresh_record, waiting_in}

abbrev pub mem : List ℕ → List ℕ → List ℤ → List ℕ → Memory
mem names marks times line = record { names = names; marks = marks; times = times; line = line }

-- slot s holds the id x, which is seen and does not wait
pub record NotWaiting (r : Record) (m : Memory) (sh : Shape) (x : Id) (s : ℕ) : Type 0 where
  pub low : s < sh.cap
  pub holds : id_of (memory_width sh) m.names s ≡ x
  pub marked : seen (get_or m.marks s 0) ≡ true
  pub apart : In s (waiting r m) → ⊥

-- from 2 · cap on the line is as it was
pub record LineKept (r : Record) (line line' : List ℕ) : Type 0 where
  pub long : length line' ≡ length line
  pub kept : (k : ℕ) → r.queue.cap + r.queue.cap ≤ k → get_or line' k 0 ≡ get_or line k 0

-- ---- see

-- x is new: it is seen now, in slot k of its own
pub record Entered (r : Record) (m : Memory) (sh : Shape) (st : State) (x : Id) (k : ℕ) : Type 0 where
  pub reads : Reads r m sh (sees st x)
  pub slot : NotWaiting r m sh x k

-- see with the answer k: x was neither in the frontier nor seen
pub record SeesNew (r : Record) (names marks names' marks' : List ℕ) (x : Id) (k : ℕ) : Type 0 where
  pub old : (times : List ℤ) (line : List ℕ) (sh : Shape) (st : State) → Reads r (mem names marks times line) sh st → (st.frontier x || st.seen x) ≡ true → ⊥
  pub new : (times : List ℤ) (line : List ℕ) (sh : Shape) (st : State) → Reads r (mem names marks times line) sh st → r.failed ≡ false → length x ≡ memory_width sh
      → (st.frontier x || st.seen x) ≡ false → (u : List Id) → Universe sh st u → Memᴰ x u → Entered r (mem names' marks' times line) sh st x k

-- see with no slot for an answer: x was in the frontier or seen, or there is no room for it
pub record SeesNone (r : Record) (names marks names' marks' : List ℕ) (x : Id) : Type 0 where
  pub still : (names' ≡ names) × (marks' ≡ marks)
  pub new : (times : List ℤ) (line : List ℕ) (sh : Shape) (st : State) → Reads r (mem names marks times line) sh st → r.failed ≡ false → length x ≡ memory_width sh
      → (st.frontier x || st.seen x) ≡ false → (u : List Id) → Universe sh st u → Memᴰ x u → ⊥

abbrev pub SeesTo : Record → List ℕ → List ℕ → List ℕ → List ℕ → Id → Option ℕ → Type 0
SeesTo r names marks names' marks' x (Some k) = SeesNew r names marks names' marks' x k
SeesTo r names marks names' marks' x None = SeesNone r names marks names' marks' x

-- see, with its answer a
pub record Sees (r : Record) (names marks names' marks' : List ℕ) (x : Id) (a : Option ℕ) : Type 0 where
  pub long-names : length names' ≡ length names
  pub long-marks : length marks' ≡ length marks
  pub told : SeesTo r names marks names' marks' x a

-- ---- wait

-- wait, with its answer r': the id in a slot joins the queue, by time with s seconds
pub record Waits (r : Record) (times times' : List ℤ) (line line' : List ℕ) (slot : ℕ) (s : ℤ) (r' : Record) : Type 0 where
  pub long-times : length times' ≡ length times
  pub for_line : LineKept r line line'
  pub failed : r'.failed ≡ r.failed
  pub joined : (names marks : List ℕ) (sh : Shape) (st : State) (x : Id) → Reads r (mem names marks times line) sh st → r.failed ≡ false → NotWaiting r (mem names marks times line) sh x slot
      → sh.cap ≤ 4294967296 → r.admitted + 2 < 4294967296 → Reads r' (mem names marks times' line') sh (joins (before_of sh) st x (cond sh.timed s (pos 0)))

-- lengthen_heap, with its answer a: in a queue by time the id in a slot waits with s seconds, in any other nothing is changed
pub record LengthensHeap (w : Waiting) (times times' : List ℤ) (line line' : List ℕ) (slot : ℕ) (s : ℤ) (a : Waiting) : Type 0 where
  pub own : w.queue.timed ≡ true → (r : Record) → Waits (waiting_in r w) times times' line line' slot s (waiting_in r a)
  pub other : w.queue.timed ≡ false → (a ≡ w) × (times' ≡ times) × (line' ≡ line)

-- lengthen_ring, with its answer a: in a queue that is not by time the id in a slot waits, whatever its seconds, in any other nothing is changed
pub record LengthensRing (w : Waiting) (times : List ℤ) (line line' : List ℕ) (slot : ℕ) (a : Waiting) : Type 0 where
  pub own : w.queue.timed ≡ false → (r : Record) (s : ℤ) → Waits (waiting_in r w) times times line line' slot s (waiting_in r a)
  pub other : w.queue.timed ≡ true → (a ≡ w) × (line' ≡ line)

-- ---- pop

-- x, queued with t seconds, has left the queue of the record r, which is l now
pub record Taken (r : Record) (names marks : List ℕ) (times : List ℤ) (line : List ℕ) (sh : Shape) (st : State) (x : Id) (t : ℤ) (l : List (Id × ℤ)) (n : Next) : Type 0 where
  pub id : id_in (memory_width sh) n.id.bytes ≡ x
  pub seconds : sh.timed ≡ true → n.seconds.0 ≡ t
  pub failed : r.failed ≡ false
  pub reads : Reads (waiting_in r n.rest) (mem names marks times line) sh (with_queue l st)
  pub slot : NotWaiting (waiting_in r n.rest) (mem names marks times line) sh x n.slot
  pub entry : entry_of (memory_width sh) sh.timed names times n.slot ≡ (x, t)

-- pop with the answer n: the first of the queue
pub record HandsOut (r : Record) (names : List ℕ) (times : List ℤ) (line line' : List ℕ) (n : Next) : Type 0 where
  pub none : (marks : List ℕ) (sh : Shape) (st : State) → Reads r (mem names marks times line) sh st → st.queue ≡ [] → ⊥
  pub some : (marks : List ℕ) (sh : Shape) (st : State) (x : Id) (t : ℤ) (l : List (Id × ℤ)) → Reads r (mem names marks times line) sh st → st.queue ≡ (x, t) ∷ l
      → Taken r names marks times line' sh st x t l n

-- with none for an answer nothing waits, and the line is as it was
abbrev pub PopsTo : Record → List ℕ → List ℤ → List ℕ → List ℕ → Option Next → Type 0
PopsTo r names times line line' (Some n) = HandsOut r names times line line' n
PopsTo r names times line line' None = (line' ≡ line) × ((marks : List ℕ) (sh : Shape) (st : State) → Reads r (mem names marks times line) sh st → st.queue ≡ [])

-- pop, with its answer a
pub record Pops (r : Record) (names : List ℕ) (times : List ℤ) (line line' : List ℕ) (a : Option Next) : Type 0 where
  pub for_line : LineKept r line line'
  pub told : PopsTo r names times line line' a

-- ---- drop_graph

-- drop_graph, with its answer r': the graph is dropped, and the id in a slot goes back
pub record Drops (r : Record) (times : List ℤ) (line line' : List ℕ) (slot : ℕ) (r' : Record) : Type 0 where
  pub for_line : LineKept r line line'
  pub failed : r'.failed ≡ r.failed
  pub reads : (names marks : List ℕ) (sh : Shape) (st : State) (x : Id) (t : ℤ) → Reads r (mem names marks times line) sh st → r.failed ≡ false → r.kept ≡ true
      → NotWaiting r (mem names marks times line) sh x slot → entry_of (memory_width sh) sh.timed names times slot ≡ (x, t) → r.admitted + 2 < 4294967296
      → Reads r' (mem names marks times line') sh (dropped (back_to sh (x, t) st.queue) st)

-- ---- start

-- the lent buffers have room for cap slots, with ids w bytes wide
pub record Lent (w : ℕ) (names marks : List ℕ) (times : List ℤ) (line : List ℕ) (cap : ℕ) : Type 0 where
  pub for_names : w * cap ≤ length names
  pub for_marks : cap ≤ length marks
  pub for_times : cap ≤ length times
  pub for_line : 5 * cap ≤ length line

-- start: the slots are emptied, and beside a fresh record the memory reads as a walk with no tips
pub record Starts (marks marks' : List ℕ) (cap : ℕ) : Type 0 where
  pub empty : marks' ≡ cleared cap marks
  pub reads : (timed newest : Bool) (fixed : Fixed) (names : List ℕ) (times : List ℤ) (line : List ℕ) → Lent (width_of fixed.kind) names marks times line cap
      → Reads (fresh_record timed newest cap fixed) (mem names marks' times line) (record { timed = timed; newest = newest; cap = cap; fixed = fixed }) empty_state
