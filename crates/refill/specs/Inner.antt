-- What the inner functions do: seconds read again, the queue drained into the memory past it, and filled again without the frontier.
-- Assumes nothing.
use Rattle.std.specs.Prelude.{ℕ, ◌+◌, ◌-◌, ◌*◌, ◌≤◌, ◌<◌, ◌≡◌, Bool, true, false, cond, List, [], ◌∷◌, length, get_or, set, ℤ, pos}
use Rattle.hashtable.specs.Marks.{frontier}
use Rattle.hashtable.specs.Table.{id_of}
use Rattle.odb.specs.Store.{store_is_ok}
use Rattle.walk.specs.Lookup.{world_of, seconds_for}
use Rattle.revwalk.specs.declared.queue.Queue.{Queue}
use Rattle.revwalk.specs.Order.{at, listed, In}
use Rattle.revwalk.specs.Queue.{before, slots_of, GoodQueue, Alike, Pushes}
use Rattle.state.specs.declared.Record.{Record}

abbrev pub empty_queue : Queue → Queue
empty_queue q = record { timed = q.timed; newest = q.newest; cap = q.cap; head = 0; count = 0; next = 0 }

-- ---- the record

pub record Struck (struck old left r : ℕ) : Type 0 where
  pub is : struck < 4294967296 → old < 4294967296 → left ≤ old → r ≡ struck + (old - left)

-- the record after painting
abbrev pub painted_record : Record → Queue → Bool → Record
painted_record r q f = record {
  live = r.live;
  painted = true;
  failed = f;
  kept = r.kept;
  fixed = r.fixed;
  queue = q;
  admitted = r.admitted;
  struck = r.struck + (r.queue.count - q.count);
}

pub record Ends (r : Record) (q : Queue) (f : Bool) (a : Record) : Type 0 where
  pub failed : a.failed ≡ f
  pub is : r.struck < 4294967296 → r.queue.count < 4294967296 → q.count ≤ r.queue.count → a ≡ painted_record r q f

-- ---- seconds read again

pub record RereadsSlot (width : ℕ) (store names : List ℕ) (slot : ℕ) (times times' : List ℤ) : Type 0 where
  pub long : length times' ≡ length times
  pub is : store_is_ok width store ≡ true → (g : List ℕ) → times' ≡ set times slot (seconds_for (world_of width store g) (id_of width names slot))

-- each waiting slot has the seconds of its id in the store
pub record Rereads (width : ℕ) (q : Queue) (store names line : List ℕ) (times times' : List ℤ) : Type 0 where
  pub long : length times' ≡ length times
  pub again : (t : List ℤ) → GoodQueue q t line → q.timed ≡ true → store_is_ok width store ≡ true → (g : List ℕ) (z : ℕ) → In z (slots_of q t line) → z < length times
      → get_or times' z (pos 0) ≡ seconds_for (world_of width store g) (id_of width names z)

-- ---- out of the queue

-- what stands from base on
abbrev pub from : List ℕ → ℕ → ℕ → ℕ
from line base k = at line (base + k)

pub record Drains (q : Queue) (times : List ℤ) (base : ℕ) (line line' : List ℕ) : Type 0 where
  pub long : length line' ≡ length line
  pub drained : GoodQueue q times line → base ≡ q.cap + q.cap → slots_of q times line ≡ listed (from line' base) q.count

-- ---- into the queue

-- a list of slots without those in a set
unfoldable pub without : (ℕ → Bool) → List ℕ → List ℕ
without p [] = []
without p (x ∷ xs) = let r : List ℕ = without p xs in cond (p x) r (x ∷ r)

-- the slots whose mark has both VISIBLE and HIDDEN
abbrev pub in_frontier : List ℕ → ℕ → Bool
in_frontier marks s = frontier (get_or marks s 0)

pub record Enters (q : Queue) (marks : List ℕ) (times : List ℤ) (slot : ℕ) (line line' : List ℕ) (r : Queue) : Type 0 where
  pub long : length line' ≡ length line
  pub kept : (k : ℕ) → q.cap + q.cap ≤ k → at line' k ≡ at line k
  pub same : Alike q r
  pub out : in_frontier marks slot ≡ true → (r ≡ q) × (line' ≡ line)
  pub stays : in_frontier marks slot ≡ false → Pushes q times slot line line' r

-- f 0, .., f (n - 1) are different slots in the order of the queue: none goes strictly before an earlier one
pub record InOrder (q : Queue) (times : List ℤ) (f : ℕ → ℕ) (n : ℕ) : Type 0 where
  pub low : (k : ℕ) → k < n → f k < q.cap
  pub apart : (i j : ℕ) → i < j → j < n → f i ≡ f j → ⊥
  pub after : (i j : ℕ) → i < j → j < n → before q times (f j) (f i) ≡ false

-- an empty queue is to be filled from there
pub record Ready (q : Queue) (times : List ℤ) (base n : ℕ) (line : List ℕ) : Type 0 where
  pub place : base ≡ q.cap + q.cap
  pub room : q.cap + q.cap ≤ length line
  pub small : n < 4294967296
  pub no-head : q.head ≡ 0
  pub no-count : q.count ≡ 0
  pub no-next : q.next ≡ 0
  pub order : InOrder q times (from line base) n

-- the queue holds the list l, and gave each a number
pub record Holding (r : Queue) (times : List ℤ) (line l : List ℕ) : Type 0 where
  pub good : GoodQueue r times line
  pub list : slots_of r times line ≡ l
  pub next : r.next ≤ r.count

pub record Refills (q : Queue) (marks : List ℕ) (times : List ℤ) (base n : ℕ) (line line' : List ℕ) (r : Queue) : Type 0 where
  pub long : length line' ≡ length line
  pub same : Alike q r
  pub filled : Ready q times base n line → Holding r times line' (without (in_frontier marks) (listed (from line base) n))

pub record Sifts (q : Queue) (marks : List ℕ) (times : List ℤ) (line line' : List ℕ) (r : Queue) : Type 0 where
  pub long : length line' ≡ length line
  pub same : Alike q r
  pub sifted : 5 * q.cap ≤ length line → q.cap < 4294967296 → GoodQueue q times line → Holding r times line' (without (in_frontier marks) (slots_of q times line))
