-- What the tests of a tested opening answer (document 02, card 1). Assumes nothing.
use Rattle.std.specs.Prelude.{ℕ, ◌≡◌, true, List, Err, None, Option, Result}
use Rattle.commitgraph.specs.declared.Layout.{Layout}
use Rattle.walk.specs.declared.Refusal.{Refusal}
use Rattle.hash.specs.Bytes.{Id}
use Rattle.odb.specs.Store.{store_is_ok}
use Rattle.walk.specs.declared.Refusal.TheVariants.{UnreadableReach}
use Rattle.walk.specs.Lookup.{World, world_of}
use Rattle.walk.specs.Opening.{Input, Lengths, refusal, room_for}
use Rattle.opening.specs.Checks.{checked_of}
use Rattle.reach.specs.Search.{Reached, AllReadable, Stuck}
use Rattle.reach.specs.Memory.{Lent}
use Rattle.reach.specs.Tested.{each, agrees_in, falls_in, judged, tested_refusal}
use Rattle.judging.specs.Judge.{Files}
use Rattle.tested.specs.Passes.{Held, GoesOn, Off}

-- 13 where a commit that is reached is not readable; else what the other two tests say of all that is reached
pub data Answered (w : World) (roots : List Id) (r : Result (Unit {0}) Refusal) : Type 0 where
  stuck : Stuck w roots → r ≡ Err UnreadableReach → Answered w roots r
  decided : (l : List Id) → Reached w roots l → AllReadable w roots → r ≡ checked_of (judged true (each (agrees_in w) l) (each (falls_in w) l)) → Answered w roots r

-- what `at_odds` answers
pub record Odds (width : ℕ) (cap from : ℕ) (s : List ℕ) (m : Lent) (n : ℕ) (r : Result (Unit {0}) Refusal) : Type 0 where
  pub right : store_is_ok width s ≡ true → (g : List ℕ) (u roots : List Id) → Off width (world_of width s g) u roots cap from m n → Answered (world_of width s g) roots r

-- what `test_from` answers
pub record TestsFrom (width : ℕ) (c : Option Layout) (g s : List ℕ) (cap from : ℕ) (m : Held) (n : ℕ) (r : Result (Unit {0}) Refusal) : Type 0 where
  pub right : Files width c g s → (u roots : List Id) → GoesOn width (world_of width s g) u roots cap from m n 0 → Answered (world_of width s g) roots r

-- what `test` answers, where 1 to 6 do not apply
pub record Tests (i : Input) (lent : Lengths) (r : Result (Unit {0}) Refusal) : Type 0 where
  pub right : refusal i ≡ None → room_for i lent ≡ true → r ≡ checked_of (tested_refusal i)
