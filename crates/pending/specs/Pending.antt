-- Painting's queue, two runs of the memory, as the list of the slots that wait, in the order in which they leave; and the waiting ids
-- by rising id.
-- Assumes nothing.
use Rattle.std.specs.Prelude.{ℕ, ◌+◌, ◌-◌, ◌≤◌, ◌<◌, ◌≡◌, ◌⊎◌, List, [], ◌∷◌, ◌++◌, Bool, true, false, cond, not, length, take, drop, get_or, ℤ, Option, Some, None}
use Rattle.std.proofs.Math.Seq.{slice}
use Rattle.hash.specs.Bytes.{lt_id}
use Rattle.hashtable.specs.Marks.{stale}
use Rattle.hashtable.specs.Table.{id_of}
use Rattle.revwalk.specs.Order.{seconds_of, insert_by}
use Rattle.walk.specs.Lookup.{Pair, lt_pair}
use Rattle.pending.specs.declared.Pending.{Pending}
use Rattle.pending.specs.declared.Taken.{Taken}

-- ---- the order

-- the level of a slot, 0 where there is no such slot
abbrev pub level_of : List ℕ → ℕ → ℕ
level_of levels s = get_or levels s 0

-- the pair of a slot
abbrev pub pair_at : List ℕ → List ℤ → ℕ → Pair
pair_at levels times s = record { generation = level_of levels s; time = seconds_of times s }

-- slot a leaves strictly before slot b: its pair is the greater one
unfoldable pub ahead : List ℕ → List ℤ → ℕ → ℕ → Bool
ahead levels times a b = lt_pair (pair_at levels times b) (pair_at levels times a)

-- the id of slot a is not above that of slot b
unfoldable pub not_above : ℕ → List ℕ → ℕ → ℕ → Bool
not_above w names a b = not (lt_id (id_of w names b) (id_of w names a))

-- ---- the queue: two runs, each in the order in which its slots leave

-- y before the first of the list that it goes strictly before, and what k makes of the rest behind it
unfoldable pub merge_from : (ℕ → ℕ → Bool) → ℕ → (List ℕ → List ℕ) → List ℕ → List ℕ
merge_from lt y k [] = y ∷ k []
merge_from lt y k (x ∷ xs) = cond (lt y x) (y ∷ k (x ∷ xs)) (x ∷ merge_from lt y k xs)

-- two runs as one list: of two first slots that of the older run leaves, unless that of the younger goes strictly before it
unfoldable pub merge_by : (ℕ → ℕ → Bool) → List ℕ → List ℕ → List ℕ
merge_by lt older [] = older
merge_by lt older (y ∷ ys) = merge_from lt y (λ rest. merge_by lt rest ys) older

-- the older and the younger of the slots that wait
abbrev pub older_in : Pending → List ℕ → List ℕ
older_in p line = slice p.start p.end line

abbrev pub younger_in : Pending → List ℕ → List ℕ
younger_in p line = slice p.low p.high line

-- the slots that wait, in the order in which they leave
abbrev pub slots_in : List ℕ → List ℤ → Pending → List ℕ → List ℕ
slots_in levels times p line = merge_by (ahead levels times) (older_in p line) (younger_in p line)

-- how many wait
abbrev pub waiting : Pending → ℕ
waiting p = (p.high - p.low) + (p.end - p.start)

-- the queue stands in line[base .. end): the younger run first, then as much free room at least as it has slots, then the older run
pub record Right (p : Pending) (line : List ℕ) : Type 0 where
  pub base : p.base ≤ p.low
  pub low : p.low ≤ p.high
  pub apart : p.high + (p.high - p.low) ≤ p.start
  pub start : p.start ≤ p.end
  pub end : p.end ≤ length line

-- there is room for one slot more
pub record Room (p : Pending) (line : List ℕ) : Type 0 where
  pub right : Right p line
  pub free : waiting p < p.end - p.base

-- what a slot's entering makes of a queue with room
pub record Entered (levels : List ℕ) (times : List ℤ) (x : ℕ) (p : Pending) (line : List ℕ) (q : Pending) (line' : List ℕ) : Type 0 where
  pub base : q.base ≡ p.base
  pub end : q.end ≡ p.end
  pub right : Right q line'
  pub slots : slots_in levels times q line' ≡ insert_by (ahead levels times) x (slots_in levels times p line)

-- with room for it the slot has entered; else nothing is changed
abbrev pub EntersIfRoom : List ℕ → List ℤ → ℕ → Pending → List ℕ → Option Pending → List ℕ → Type 0
EntersIfRoom levels times x p line (Some q) line' = Room p line × Entered levels times x p line q line'
EntersIfRoom levels times x p line None line' = (Room p line → ⊥) × (line' ≡ line)

pub record Pushes (levels : List ℕ) (times : List ℤ) (x : ℕ) (p : Pending) (line : List ℕ) (r : Option Pending) (line' : List ℕ) : Type 0 where
  pub long : length line' ≡ length line
  pub below : take p.base line' ≡ take p.base line
  pub above : drop p.end line' ≡ drop p.end line
  pub entered : EntersIfRoom levels times x p line r line'

-- a slot waits
pub record Waits (p : Pending) (line : List ℕ) : Type 0 where
  pub right : Right p line
  pub some : 0 < waiting p

-- the first of the waiting slots leaves
pub record Took (levels : List ℕ) (times : List ℤ) (p : Pending) (line : List ℕ) (t : Taken) : Type 0 where
  pub base : t.pending.base ≡ p.base
  pub end : t.pending.end ≡ p.end
  pub right : Right t.pending line
  pub slots : slots_in levels times p line ≡ t.slot ∷ slots_in levels times t.pending line

-- where a slot waits the first of them leaves; else none does
abbrev pub Pops : List ℕ → List ℤ → Pending → List ℕ → Option Taken → Type 0
Pops levels times p line (Some t) = Waits p line × Took levels times p line t
Pops levels times p line None = Waits p line → ⊥

-- ---- STALE

-- the mark of a slot has STALE
abbrev pub stale_at : List ℕ → ℕ → Bool
stale_at marks s = stale (get_or marks s 0)

-- "a queued commit lacks STALE"
unfoldable pub fresh : (ℕ → Bool) → List ℕ → Bool
fresh done [] = false
fresh done (x ∷ xs) = let r = fresh done xs in cond (done x) r true

-- ---- the waiting ids by rising id

-- what putting a slot into the run line[from .. from + n) makes of the memory
pub record Sorts (w : ℕ) (names : List ℕ) (x from n : ℕ) (line : List ℕ) (r : Bool) (line' : List ℕ) : Type 0 where
  pub long : length line' ≡ length line
  pub below : take from line' ≡ take from line
  pub above : drop (from + n + 1) line' ≡ drop (from + n + 1) line
  pub entered : from + n < length line → (r ≡ true) × (slice from (from + n + 1) line' ≡ insert_by (not_above w names) x (slice from (from + n) line))
  pub refused : length line ≤ from + n → (r ≡ false) × (line' ≡ line)

-- ---- the inner functions

-- x put into line[head .. tail), of which what stands in front of x has moved down by one
unfoldable pub shifted_in : (ℕ → ℕ → Bool) → List ℕ → ℕ → ℕ → ℕ → List ℕ
shifted_in lt line head tail x = take (head - 1) line ++ (insert_by lt x (slice head tail line) ++ drop tail line)

-- the younger run has a place for one slot more
pub record Widens (p : Pending) : Type 0 where
  pub free : p.base < p.low
  pub apart : p.high + (p.high - p.low) < p.start

-- the younger run is empty, and a place below the older one is free
pub record OlderOnly (p : Pending) : Type 0 where
  pub none : p.high ≤ p.low
  pub free : p.base < p.start

-- one of two runs of the memory has a slot
pub record Runs (line : List ℕ) (a end b high : ℕ) : Type 0 where
  pub older : end ≤ length line
  pub younger : high ≤ length line
  pub some : (a < end) ⊎ (b < high)

-- r says that of two runs the older one's first slot leaves, else the younger one's does
pub record Leaves (lt : ℕ → ℕ → Bool) (line : List ℕ) (a end b high : ℕ) (r : Bool) : Type 0 where
  pub from-older : r ≡ true → a < end
  pub older : r ≡ true → merge_by lt (slice a end line) (slice b high line) ≡ get_or line a 0 ∷ merge_by lt (slice (a + 1) end line) (slice b high line)
  pub from-younger : r ≡ false → b < high
  pub younger : r ≡ false → merge_by lt (slice a end line) (slice b high line) ≡ get_or line b 0 ∷ merge_by lt (slice a end line) (slice (b + 1) high line)

-- the run line[low .. high) merged into the run line[start .. end), which grows down by as many places
unfoldable pub merged_in : (ℕ → ℕ → Bool) → List ℕ → ℕ → ℕ → ℕ → ℕ → List ℕ
merged_in lt line low high start end = take (start - (high - low)) line ++ (merge_by lt (slice start end line) (slice low high line) ++ drop end line)

-- the same slots wait, all of them in the older run, and a place below it is free
pub record Settles (levels : List ℕ) (times : List ℤ) (p : Pending) (line : List ℕ) (q : Pending) (line' : List ℕ) : Type 0 where
  pub long : length line' ≡ length line
  pub below : take p.base line' ≡ take p.base line
  pub above : drop p.end line' ≡ drop p.end line
  pub base : q.base ≡ p.base
  pub end : q.end ≡ p.end
  pub right : Right q line'
  pub empty : OlderOnly q
  pub slots : slots_in levels times q line' ≡ slots_in levels times p line

-- a slot has entered, and the memory elsewhere is as it was
pub record Enters (levels : List ℕ) (times : List ℤ) (x : ℕ) (p : Pending) (line : List ℕ) (q : Pending) (line' : List ℕ) : Type 0 where
  pub long : length line' ≡ length line
  pub below : take p.base line' ≡ take p.base line
  pub above : drop p.end line' ≡ drop p.end line
  pub entered : Entered levels times x p line q line'

-- k is the place of line[from .. to) at which x goes in
pub record Placed (lt : ℕ → ℕ → Bool) (line : List ℕ) (from to x k : ℕ) : Type 0 where
  pub low : from ≤ k
  pub high : k ≤ to
  pub goes : insert_by lt x (slice from to line) ≡ slice from k line ++ (x ∷ slice k to line)

-- x put in at place k, and line[k .. to) moved up by one
unfoldable pub put_in : List ℕ → ℕ → ℕ → ℕ → List ℕ
put_in line k to x = take k line ++ (x ∷ (slice k to line ++ drop (to + 1) line))
