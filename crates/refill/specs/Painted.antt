-- What the end of painting promises (document 01, Painting): for every state that the memory read as before painting, the state that it reads
-- as after. Assumes nothing.
use Rattle.std.specs.Prelude.{ℕ, ◌+◌, ◌≤◌, ◌<◌, ◌≡◌, Bool, true, false, length, get_or, ℤ}
use mathlib.Core.List.{List, [], Memᴰ}
use Rattle.hash.specs.Bytes.{Id}
use Rattle.hashtable.specs.Marks.{seen, frontier}
use Rattle.hashtable.specs.Table.{live_at, Holds, Table, mark_for}
use Rattle.odb.specs.Store.{store_is_ok}
use Rattle.walk.specs.Lookup.{World, world_of, seconds_for}
use Rattle.walk.specs.State.{State, nobody}
use Rattle.walk.specs.Next.{outside, painted_with}
use Rattle.state.specs.declared.Record.{Record}
use Rattle.state.specs.Reads.{Memory, Shape, Reads, memory_width}
use Rattle.state.specs.Steps.{mem}

-- what painting does to the memory, m before it and m' after it: more marks and new ids, but the seen ids stay the same, a slot that holds an
-- id holds it still, and the line stays below 2 · cap
pub record Painted (width : ℕ) (m m' : Memory) (cap : ℕ) : Type 0 where
  pub table : Table width false m'.names m'.marks cap
  pub seen_same : (x : Id) → seen (mark_for width false m'.names m'.marks cap x) ≡ seen (mark_for width false m.names m.marks cap x)
  pub still : (x : Id) (k : ℕ) → Holds width false m.names m.marks cap x k → Holds width false m'.names m'.marks cap x k
  pub long-times : length m'.times ≡ length m.times
  pub long-line : length m'.line ≡ length m.line
  pub line_same : (k : ℕ) → k < cap + cap → get_or m.line k 0 ≡ get_or m'.line k 0

-- a walk of which the first next call has come: it is not painted, what waits was admitted, and its numbers are small
pub record Due (r : Record) (m : Memory) (sh : Shape) (st : State) : Type 0 where
  pub reads : Reads r m sh st
  pub unpainted : r.painted ≡ false
  pub waited : length st.queue ≤ st.admitted
  pub few : r.struck + sh.cap < 4294967296

-- the seconds with which commits wait are those of the store
abbrev pub Timed : World → Shape → State → Type 0
Timed w sh st = sh.timed ≡ true → (x : Id) (t : ℤ) → Memᴰ (x, t) st.queue → t ≡ seconds_for w x

-- leave_frontier, with its answer r': "The frontier is every commit with both marks; it leaves the line", and what left is struck
pub record Leaves (r : Record) (store names marks : List ℕ) (times times' : List ℤ) (line line' : List ℕ) (r' : Record) : Type 0 where
  pub long-times : length times' ≡ length times
  pub long-line : length line' ≡ length line
  pub failed : r'.failed ≡ false
  pub reads : (m : Memory) (sh : Shape) (st : State) (graph : List ℕ) (f : Id → Bool) → Due r m sh st → Painted (memory_width sh) m (mem names marks times line) sh.cap
      → store_is_ok (memory_width sh) store ≡ true → Timed (world_of (memory_width sh) store graph) sh st
      → ((x : Id) → f x ≡ frontier (mark_for (memory_width sh) false names marks sh.cap x)) → Reads r' (mem names marks times' line') sh (painted_with st (outside f st.queue) f)

-- fail_painting, with its answer r': "line emptied (all of it struck)"
pub record Fails (r r' : Record) : Type 0 where
  pub failed : r'.failed ≡ true
  pub reads : (m m' : Memory) (sh : Shape) (st : State) → Due r m sh st → Painted (memory_width sh) m m' sh.cap → Reads r' m' sh (painted_with st [] nobody)

-- skip_painting, with its answer r': painting is not due, and no mark says otherwise
pub record Skips (r r' : Record) : Type 0 where
  pub failed : r'.failed ≡ r.failed
  pub reads : (m : Memory) (sh : Shape) (st : State) → Due r m sh st
      → ((k : ℕ) → k < sh.cap → live_at false m.marks k ≡ true → frontier (get_or m.marks k 0) ≡ false)
      → Reads r' m sh (painted_with st st.queue nobody)
