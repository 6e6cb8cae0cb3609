-- What the steps of the call do. Assumes nothing.
use Rattle.std.specs.Prelude.{ℕ, ◌≡◌, cond, true, List, [], length, get_or, ltb}
use Rattle.hash.specs.Bytes.{Id}
use Rattle.odb.specs.Store.{store_is_ok}
use Rattle.walk.specs.Reach.{links}
use Rattle.memo.specs.AtHand.{store_alone}
use Rattle.moves.specs.Remembered.{Remembers}
use Rattle.trace.specs.declared.Prospect.TheVariants.{NotForced}
use Rattle.trace.specs.declared.Prospect.{Prospect}
use Rattle.trace.specs.Call.{Traced, forced_by, trace_from, trace_within}

-- the answer where parent i is the first that forces, or there is none of that number
pub record ForcedBy (width : ℕ) (s : List ℕ) (x : Id) (i : ℕ) (r : Prospect) : Type 0 where
  pub right : store_is_ok width s ≡ true → r ≡ cond (ltb i (length (links (store_alone width s) x))) (forced_by i (get_or (links (store_alone width s) x) i [])) NotForced

-- the answer of the moves
pub record Plays (width : ℕ) (s : List ℕ) (list : List Id) (d : ℕ) (x : Id) (m : List ℕ) (r : Prospect) : Type 0 where
  pub right : store_is_ok width s ≡ true → Remembers width s list m → r ≡ trace_from (store_alone width s) list d x

-- the answer after 2 to 4
pub record Answers (width : ℕ) (s : List ℕ) (list : List Id) (d : ℕ) (x : Id) (r : Traced) : Type 0 where
  pub right : store_is_ok width s ≡ true → r ≡ trace_within (store_alone width s) list d x
