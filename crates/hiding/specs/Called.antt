-- Hiding adds up, for a caller: the ways to run an opening to its end that the three sentences hold of, by what the calls promise. Assumes nothing.
use Rattle.std.specs.Prelude.{ℕ, ◌+◌, ◌*◌, ◌≤◌, ◌≡◌, true, List, length, Ok}
use Rattle.hash.specs.Bytes.{Id, ids_of}
use Rattle.walk.specs.declared.Outcome.TheVariants.{End}
use Rattle.walk.specs.Opening.{Input, room_for, P, width_in}
use Rattle.traverse.specs.declared.Opened.{Opened}
use Rattle.traverse.specs.Contract.{Lent, lengths_of, OpenSays}
use Rattle.traverse.specs.Demand.{Call, Calls, files_of, CallIs, answers_of, handed_out}
use Rattle.lister.specs.declared.Listing.{Listing}
use Rattle.lister.specs.Says.{ListSays}
use Rattle.opentested.specs.Contract.{TestedOpenSays}
use Rattle.hiding.specs.Hiding.{Tested, AddsUp}

-- ---- an opening and next calls

-- an opening with "memory enough", and a list of next calls after it of which one says end. The opening may be a tested one: where that is
-- accepted it promises what `open` promises
pub record Walked (i : Input) : Type 0 where
  pub lent : Lent
  pub opened : Opened
  pub left : Lent
  pub opens : OpenSays i lent opened left
  pub room : room_for i (lengths_of lent) ≡ true
  pub calls : List Call
  pub called : Calls (files_of i) opened.record left calls
  pub number : ℕ
  pub last : Call
  pub among_them : CallIs calls number last
  pub says-end : last.out.answer.outcome ≡ End

-- whoever makes P + 2 calls after an opening that was accepted has such a list
unfoldable pub ComesToItsEnd : Input → Type 0
ComesToItsEnd i = (m : Lent) (o : Opened) (m' : Lent) → OpenSays i m o m' → o.answer.outcome ≡ (Ok tt)
    → (cs : List Call) → Calls (files_of i) o.record m' cs → P i + 2 ≤ length cs
    → (k : ℕ) × (c : Call) × CallIs cs k c × (c.out.answer.outcome ≡ End)

-- the ids handed out, in order
abbrev pub ids_handed : (i : Input) → Walked i → List Id
ids_handed i d = handed_out (width_in i) (answers_of d.calls)

-- ---- list

-- `list` with memory enough, and with room for the ids of all commits that it counts
pub record SetDown (i : Input) : Type 0 where
  pub lent : Lent
  pub ids : List ℕ
  pub listing : Listing
  pub left : Lent
  pub ids-left : List ℕ
  pub lists : ListSays i lent ids listing left ids-left
  pub room : room_for i (lengths_of lent) ≡ true
  pub room_for-ids : width_in i * listing.commits ≤ length ids

-- the ids in the caller's buffer, as many as are counted
abbrev pub ids_set_down : (i : Input) → SetDown i → List Id
ids_set_down i d = ids_of (width_in i) d.listing.commits d.ids-left

-- ---- the claim

pub record HidingAddsUp (i : Input) : Type 0 where
  pub of_calls : AddsUp Walked ids_handed i
  pub of_list : AddsUp SetDown ids_set_down i

-- a tested opening that is accepted has found the premises and the memory enough, and promises what `open` promises: so it begins a `Walked`
unfoldable pub OfTested : Input → Type 0
OfTested i = (m : Lent) (o : Opened) (m' : Lent) → TestedOpenSays i m o m' → o.answer.outcome ≡ (Ok tt) → Tested i × OpenSays i m o m' × (room_for i (lengths_of m) ≡ true)
