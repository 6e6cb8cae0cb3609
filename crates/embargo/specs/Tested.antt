-- The same after tested openings (document 02, cards 1 and 10): "every outside listing … is the same". Assumes nothing.
use Rattle.std.specs.Prelude.{◌≡◌, ℕ, Bool, List}
use Rattle.walk.specs.Opening.{Input, width_in, list_ids}
use Rattle.reach.specs.Tested.{tested_open}
use Rattle.traverse.specs.declared.Opened.{Opened}
use Rattle.traverse.specs.Contract.{Lent, lengths_of}
use Rattle.traverse.specs.Demand.{Call, Calls, files_of, CallIs}
use Rattle.opentested.specs.Contract.{TestedOpenSays}
use Rattle.embargo.specs.Embargo.{DifferOnlyInFeed}
use Rattle.embargo.specs.Outside.{over, Alike}

-- two tested openings in memory of the same lengths, and any lists of next calls after them
pub record SameTested (i j : Input) : Type 0 where
  pub opening : (room : Bool) → tested_open i room ≡ tested_open j room
  pub opened : (m n : Lent) → lengths_of m ≡ lengths_of n → (o q : Opened) (m' n' : Lent) → TestedOpenSays i m o m' → TestedOpenSays j n q n' → o.answer ≡ q.answer
  pub called : (m n : Lent) → lengths_of m ≡ lengths_of n → (o q : Opened) (m' n' : Lent) → TestedOpenSays i m o m' → TestedOpenSays j n q n'
      → (cs ds : List Call) → Calls (files_of i) o.record m' cs → Calls (files_of j) q.record n' ds
      → (k : ℕ) (c d : Call) → CallIs cs k c → CallIs ds k d → Alike c d

unfoldable pub EmbargoTested : Type 0
EmbargoTested = (i : Input) (embargoed a b : List ℕ) → DifferOnlyInFeed (width_in i) (list_ids (width_in i) embargoed) a b → SameTested (over i a) (over i b)
