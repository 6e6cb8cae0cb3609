-- What painting begins with: marks without any of its own, and the waiting commits by rising id. Assumes nothing.
use Rattle.std.specs.Prelude.{ℕ, zero, suc, ◌+◌, ◌*◌, ◌/◌, ◌≤◌, ◌≡◌, List, [], ◌∷◌, map, length, take, ℤ}
use Rattle.std.proofs.Math.Seq.{slice}
use Rattle.hashtable.specs.Table.{id_of}
use Rattle.revwalk.specs.Order.{In}
use Rattle.revwalk.specs.Queue.{GoodQueue, slots_of}
use Rattle.revwalk.specs.declared.queue.Queue.{Queue}
use Rattle.walk.specs.Painting.{sorted}

-- the first n marks without VISIBLE, HIDDEN and STALE, the low three bits
unfoldable pub washed : ℕ → List ℕ → List ℕ
washed zero marks = marks
washed (suc n) [] = []
washed (suc n) (m ∷ marks) = m / 8 * 8 ∷ washed n marks

-- the slots that wait stand from `from` on by rising id
pub record Collected (width : ℕ) (names line : List ℕ) (q : Queue) (times : List ℤ) (from : ℕ) (line' : List ℕ) : Type 0 where
  pub ids : map (id_of width names) (slice from (from + q.count) line') ≡ sorted (map (id_of width names) (slots_of q times line))
  pub slots : (s : ℕ) → In s (slice from (from + q.count) line') → In s (slots_of q times line)

-- what `collect` does, past the memory of the queue and where there is room
pub record Collects (width : ℕ) (names line : List ℕ) (q : Queue) (from : ℕ) (line' : List ℕ) : Type 0 where
  pub long : length line' ≡ length line
  pub below : take from line' ≡ take from line
  pub right : (times : List ℤ) → GoodQueue q times line → q.cap + q.cap ≤ from → from + q.count ≤ length line → Collected width names line q times from line'
