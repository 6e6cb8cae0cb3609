-- Working memory read as a walk's state (document 01: "reads as this walk's state (by one definition over the record and these bytes
-- alone, no file or list: the line in order with its queued seconds, the seen, the frontier, painted or not, graph kept or dropped"). Assumes nothing.
use Rattle.std.specs.Prelude.{ℕ, ◌+◌, ◌*◌, ◌≤◌, ◌<◌, ◌≡◌, Bool, true, false, cond, not, ◌&&◌, length, get_or, ℤ, pos}
use mathlib.Core.List.{List, [], map, Memᴰ}
use Rattle.hash.specs.Bytes.{Id}
use Rattle.hashtable.specs.Marks.{seen, frontier}
use Rattle.hashtable.specs.Table.{id_of, live_at, Table, has}
use Rattle.revwalk.specs.Order.{In}
use Rattle.revwalk.specs.Queue.{GoodQueue, slots_of}
use Rattle.walk.specs.State.{State}
use Rattle.state.specs.declared.Fixed.{Fixed}
use Rattle.state.specs.declared.Record.{Record}
use Rattle.hash.specs.Bytes.{width_of}
use Rattle.hash.specs.declared.Kind.TheVariants.{Sha1}

-- the lent buffers that a state stands in
pub record Memory : Type 0 where
  pub names : List ℕ
  pub marks : List ℕ
  pub times : List ℤ
  pub line : List ℕ

-- what an opening fixes for all calls: the queue's order, the number of slots (document 01's P), and what it found in the files
pub record Shape : Type 0 where
  pub timed : Bool
  pub newest : Bool
  pub cap : ℕ
  pub fixed : Fixed

-- the width of the ids in a walk's memory
abbrev pub memory_width : Shape → ℕ
memory_width sh = width_of sh.fixed.kind

-- a waiting slot as an entry of the model's queue: its id, and by time the seconds it was queued with
abbrev pub entry_of : ℕ → Bool → List ℕ → List ℤ → ℕ → Id × ℤ
entry_of w timed names times s = (id_of w names s, cond timed (get_or times s (pos 0)) (pos 0))

-- the slots that wait, in order
abbrev pub waiting : Record → Memory → List ℕ
waiting r m = slots_of r.queue m.times m.line

-- "this walk's state": the record r and the memory m read as the state st of a walk of the shape sh
pub record Reads (r : Record) (m : Memory) (sh : Shape) (st : State) : Type 0 where
  pub alive : r.live ≡ true
  pub timed : r.queue.timed ≡ sh.timed
  pub newest : r.queue.newest ≡ sh.newest
  pub cap : r.queue.cap ≡ sh.cap
  pub fixed : r.fixed ≡ sh.fixed
  pub for_times : sh.cap ≤ length m.times
  pub for_line : 5 * sh.cap ≤ length m.line
  pub table : Table (memory_width sh) r.painted m.names m.marks sh.cap
  pub good : GoodQueue r.queue m.times m.line
  -- the queue, in order, with its queued seconds; a waiting id is seen
  pub queue : st.queue ≡ map (entry_of (memory_width sh) sh.timed m.names m.times) (waiting r m)
  pub waits-seen : (s : ℕ) → In s (waiting r m) → seen (get_or m.marks s 0) ≡ true
  -- the numbers given to queued slots stay small
  pub numbers : r.queue.next ≤ r.admitted + cond r.kept 0 1
  -- the seen and the frontier
  pub seen-is : (x : Id) → st.seen x ≡ has (memory_width sh) r.painted m.names m.marks sh.cap seen x
  pub frontier-is : (x : Id) → st.frontier x ≡ (r.painted && not r.failed && has (memory_width sh) r.painted m.names m.marks sh.cap frontier x)
  -- before painting a live slot is seen, and not in the frontier, whatever else its mark holds
  pub only_seen : r.painted ≡ false → (k : ℕ) → k < sh.cap → live_at false m.marks k ≡ true → (seen (get_or m.marks k 0) ≡ true) × (frontier (get_or m.marks k 0) ≡ false)
  -- after a refused painting nothing waits
  pub failed-empty : r.failed ≡ true → waiting r m ≡ []
  pub painted : st.painted ≡ r.painted
  pub kept : st.kept ≡ r.kept
  pub admitted : st.admitted ≡ r.admitted
  pub struck : st.struck ≡ r.struck

-- a list of ids that holds every id that a state has seen or has in its frontier, and no more than there are slots
pub record Universe (sh : Shape) (st : State) (u : List Id) : Type 0 where
  pub few : length u ≤ sh.cap
  pub has-seen : (x : Id) → st.seen x ≡ true → Memᴰ x u
  pub has-frontier : (x : Id) → st.frontier x ≡ true → Memᴰ x u

-- the record of a walk that is not open
unfoldable pub closed_record : Record
closed_record = record {
  live = false;
  painted = false;
  failed = false;
  kept = false;
  fixed = record { layout = record { fan = 0; ids = 0; rows = 0; edge = 0; edges = 0; count = 0; levels = false }; kind = Sha1 };
  queue = record { timed = false; newest = false; cap = 0; head = 0; count = 0; next = 0 };
  admitted = 0;
  struck = 0;
}
