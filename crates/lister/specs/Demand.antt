-- The third demand for a caller of `list` alone, from what `list` promises (`ListSays`); and what holds with no premises. Assumes nothing.
use Rattle.std.specs.Prelude.{ℕ, ◌+◌, ◌*◌, ◌≤◌, ◌≡◌, ◌↔◌, true, List, length, take, drop, None, Ok}
use Rattle.hash.specs.Bytes.{Id, ids_of}
use Rattle.walk.specs.declared.Refusal.{Refusal}
use Rattle.walk.specs.declared.Outcome.TheVariants.{End, Refused}
use Rattle.walk.specs.Opening.{Input, width_in, walk_of, list_ids, refusal, room_for, P}
use Rattle.walk.specs.Next.{end}
use Rattle.walk.specs.Calls.{answer_at_call, answers}
use Rattle.walk.specs.Reach.{Mem, NoDup}
use Rattle.walk.specs.Demand.{Premises, Listed}
use Rattle.walk.specs.AnyInput.{OfCall, handed_ids}
use Rattle.traverse.specs.Contract.{Lent, lengths_of}
use Rattle.lister.specs.declared.Listing.{Listing}
use Rattle.driver.specs.Walked.{whole_list}
use Rattle.lister.specs.Says.{ListSays}

-- a list of ids so wide read from the caller's buffer, which was ids and is ids'
pub record ReadsAs (width : ℕ) (list : List Id) (ids ids' : List ℕ) : Type 0 where
  -- the first k ids, where there is room for k
  pub front : (k : ℕ) → k ≤ length list → width * k ≤ length ids → ids_of width k ids' ≡ take k list
  -- where there is room for all: the whole list, and past it every byte as it was
  pub whole : width * length list ≤ length ids → ids_of width (length list) ids' ≡ list
  pub past : width * length list ≤ length ids → drop (width * length list) ids' ≡ drop (width * length list) ids

-- under the premises
pub record Delivers (i : Input) (ids : List ℕ) (l : Listing) (ids' : List ℕ) : Type 0 where
  -- "an opening to which none of 01's 1 to 6 applies is accepted"
  pub accepted : l.outcome ≡ (Ok tt)
  -- the different "commits reachable from an admitted tip over admitted links and from no hidden tip", and no others
  pub list : List Id
  pub no_repeats : NoDup list
  pub exactly : (x : Id) → Mem x list ↔ Listed (walk_of i) (list_ids (width_in i) i.tips) x
  pub within : length list ≤ P i
  -- they are counted, and stand in the caller's buffer
  pub commits : l.commits ≡ length list
  pub in_ids : ReadsAs (width_in i) list ids ids'
  -- "and no answer is a refusal"
  pub none-refused : l.refused ≡ 0
  pub no-reason : l.reason ≡ End

-- with no premises, after an accepted opening
pub record AnyListing (i : Input) (ids : List ℕ) (l : Listing) (ids' : List ℕ) : Type 0 where
  pub no_repeats : NoDup (whole_list i)
  pub within : length (whole_list i) ≤ P i
  -- call P + 2, of number P + 1 counted from 0, and every later one says end, so that no further call would hand out another commit
  pub ended : (k : ℕ) → P i + 1 ≤ k → (answer_at_call i k).kind ≡ end
  pub no_more : (k : ℕ) → P i + 2 ≤ k → handed_ids (answers i k) ≡ whole_list i
  pub commits : l.commits ≡ length (whole_list i)
  pub in_ids : ReadsAs (width_in i) (whole_list i) ids ids'
  -- no call was refused exactly where no refusal is named; one that is named is 9, 10 or 11
  pub none-refused : (l.refused ≡ 0) ↔ (l.reason ≡ End)
  pub refused-by : (r : Refusal) → l.reason ≡ Refused r → OfCall r

-- of `list` with the input i, the lent memory m and the buffer ids, whatever it gave back
pub record ListDemand (i : Input) (m : Lent) (ids : List ℕ) : Type 0 where
  -- none of 1 to 6 applies, and the premises hold
  pub demanded : (l : Listing) (m' : Lent) (ids' : List ℕ) → ListSays i m ids l m' ids' → refusal i ≡ None → room_for i (lengths_of m) ≡ true → Premises (walk_of i) (list_ids (width_in i) i.tips)
      → Delivers i ids l ids'
  pub any_accepted : (l : Listing) (m' : Lent) (ids' : List ℕ) → ListSays i m ids l m' ids' → l.outcome ≡ (Ok tt) → AnyListing i ids l ids'
