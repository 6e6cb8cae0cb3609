-- The queue of slots: the list of those that wait, what is right of its memory, and what its functions do.
use Rattle.std.specs.Prelude.{◌≡◌, List, [], ◌∷◌, Bool, true, false, cond, not, ℕ, ◌+◌, ◌-◌, ◌≤◌, ◌<◌, length, ltb, ℤ, Option, Some, None}
use Rattle.revwalk.specs.declared.queue.Queue.{Queue}
use Rattle.revwalk.specs.declared.queue.Popped.{Popped}
use Rattle.hashtable.specs.Table.{wrap}
use Rattle.revwalk.specs.Order.{at, seq_of, ahead, goes, never, insert_by, sort_at, In}
use Rattle.revwalk.specs.Sift.{Heaped}

-- ---- the heap
-- the slots of line[0 .. n) in the order in which they are handed out
unfoldable pub queued : Bool → List ℤ → List ℕ → ℕ → ℕ → List ℕ
queued newest times line cap n = sort_at (goes newest times cap line) (at line) n

-- n slots below cap stand in line[0 .. n) as a heap, each with a number of its own in line[cap .. 2 cap), below next
pub record Heap (newest : Bool) (times : List ℤ) (line : List ℕ) (cap n next : ℕ) : Type 0 where
  pub room : cap + cap ≤ length line
  pub size : n ≤ cap
  pub low : (k : ℕ) → k < n → at line k < cap
  pub apart : (i j : ℕ) → i < n → j < n → seq_of line cap (at line i) ≡ seq_of line cap (at line j) → i ≡ j
  pub early : (k : ℕ) → k < n → seq_of line cap (at line k) < next
  pub heap : Heaped (goes newest times cap line) (at line) n

-- the root is taken out of a heap of m + 1 slots
pub record Unrooted (newest : Bool) (times : List ℤ) (cap m : ℕ) (line out : List ℕ) : Type 0 where
  pub kept : (k : ℕ) → m ≤ k → at out k ≡ at line k
  pub heap : (next : ℕ) → Heap newest times line cap (m + 1) next → Heap newest times out cap m next
  pub list : (next : ℕ) → Heap newest times line cap (m + 1) next → queued newest times line cap (m + 1) ≡ at line 0 ∷ queued newest times out cap m

-- ---- the ring
-- the i-th slot of the ring that begins at head
abbrev pub ring_at : List ℕ → ℕ → ℕ → ℕ → ℕ
ring_at line cap head i = at line (wrap cap (head + i))

-- f 0, .., f (n - 1) are slots below cap, no two the same
pub record Slots (f : ℕ → ℕ) (cap n : ℕ) : Type 0 where
  pub low : (k : ℕ) → k < n → f k < cap
  pub apart : (i j : ℕ) → i < n → j < n → f i ≡ f j → i ≡ j

-- n slots stand in the ring of line[0 .. cap) that begins at head
pub record Ring (line : List ℕ) (cap head n : ℕ) : Type 0 where
  pub room : cap + cap ≤ length line
  pub size : n ≤ cap
  pub start : 0 < cap → head < cap
  pub slots : Slots (ring_at line cap head) cap n

-- ---- the queue
-- whether slot a is handed out strictly before slot b by its seconds alone
unfoldable pub before : Queue → List ℤ → ℕ → ℕ → Bool
before q times = cond q.timed (ahead q.newest times) never

-- the slot at place i of the queue's memory
unfoldable pub place_of : Queue → List ℕ → ℕ → ℕ
place_of q line = cond q.timed (at line) (ring_at line q.cap q.head)

-- whether slot a is handed out before slot b, of two that wait; in a ring their places decide
unfoldable pub turn_of : Queue → List ℤ → List ℕ → ℕ → ℕ → Bool
turn_of q times line = cond q.timed (goes q.newest times q.cap line) never

-- the slots that wait, in the order in which they are handed out
unfoldable pub slots_of : Queue → List ℤ → List ℕ → List ℕ
slots_of q times line = sort_at (turn_of q times line) (place_of q line) q.count

-- the queue's memory is right
pub record GoodQueue (q : Queue) (times : List ℤ) (line : List ℕ) : Type 0 where
  pub heap : q.timed ≡ true → Heap q.newest times line q.cap q.count q.next
  pub ring : q.timed ≡ false → Ring line q.cap q.head q.count

-- ---- what the functions do
-- what stays of a queue as long as it is used
pub record Alike (q r : Queue) : Type 0 where
  pub timed : r.timed ≡ q.timed
  pub newest : r.newest ≡ q.newest
  pub cap : r.cap ≡ q.cap

-- a slot has joined the queue, which now holds the list l
pub record Joined (q : Queue) (times : List ℤ) (l out : List ℕ) (r : Queue) : Type 0 where
  pub count : r.count ≡ q.count + 1
  pub good : GoodQueue r times out
  pub list : slots_of r times out ≡ l

-- a slot that does not wait joins the queue, which then holds the list l; with the answer r. An answer with the same count is a refusal.
pub record Joins (q : Queue) (times : List ℤ) (slot : ℕ) (l line out : List ℕ) (r : Queue) : Type 0 where
  pub long : length out ≡ length line
  pub kept : (k : ℕ) → q.cap + q.cap ≤ k → at out k ≡ at line k
  pub same : Alike q r
  pub next : r.next ≤ q.next + 1
  pub still : r.count ≡ q.count → (r ≡ q) × (out ≡ line)
  pub joined : GoodQueue q times line → slot < q.cap → (In slot (slots_of q times line) → ⊥) → q.next + 1 < 4294967296 → Joined q times l out r

-- push: before the first that it goes strictly before, so after its equals
abbrev pub Pushes : Queue → List ℤ → ℕ → List ℕ → List ℕ → Queue → Type 0
Pushes q times slot line out r = Joins q times slot (insert_by (before q times) slot (slots_of q times line)) line out r

-- put_back: by time as push does, otherwise to the front
abbrev pub PutsBack : Queue → List ℤ → ℕ → List ℕ → List ℕ → Queue → Type 0
PutsBack q times slot line out r =
    Joins q times slot (cond q.timed (insert_by (before q times) slot (slots_of q times line)) (slot ∷ slots_of q times line)) line out r

-- slot r.slot, the first of the list, was handed out, and r.queue holds the others
pub record Took (q : Queue) (times : List ℤ) (line out : List ℕ) (r : Popped) : Type 0 where
  pub count : r.queue.count + 1 ≡ q.count
  pub good : GoodQueue r.queue times out
  pub list : slots_of q times line ≡ r.slot ∷ slots_of r.queue times out

-- a slot was handed out, the one at the first place
pub record HandsOut (q : Queue) (times : List ℤ) (line out : List ℕ) (r : Popped) : Type 0 where
  pub same : Alike q r.queue
  pub next : r.queue.next ≡ q.next
  pub first : r.slot ≡ place_of q line 0
  pub took : GoodQueue q times line → Took q times line out r

-- by the answer: a slot was handed out; or none, of a queue that is empty or not right, and nothing has changed
abbrev pub PopsTo : Queue → List ℤ → List ℕ → List ℕ → Option Popped → Type 0
PopsTo q times line out (Some r) = HandsOut q times line out r
PopsTo q times line out None = (out ≡ line) × (GoodQueue q times line → slots_of q times line ≡ [])

-- pop, with its answer r
pub record Pops (q : Queue) (times : List ℤ) (line out : List ℕ) (r : Option Popped) : Type 0 where
  pub long : length out ≡ length line
  pub kept : (k : ℕ) → q.cap + q.cap ≤ k → at out k ≡ at line k
  pub told : PopsTo q times line out r

-- pop of a heap alone or of a ring alone, with its answer r: of a queue by time, or of one that is not, as b says; of the other nothing is handed out
pub record PopsOf (b : Bool) (q : Queue) (times : List ℤ) (line out : List ℕ) (r : Option Popped) : Type 0 where
  pub own : q.timed ≡ b → Pops q times line out r
  pub other : q.timed ≡ not b → (r ≡ None) × (out ≡ line)

-- slot_at, with its answer r
pub record ReadsSlot (q : Queue) (line : List ℕ) (i r : ℕ) : Type 0 where
  pub is : (times : List ℤ) → GoodQueue q times line → i < q.count → r ≡ place_of q line i
