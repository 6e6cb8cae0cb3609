-- A tested opening goes by the headers of what is reached, and they are the same: so are its tests, its answer, and the calls after it.
-- Assumes nothing.
use Rattle.std.specs.Prelude.{Err, Ok, Result}
use Rattle.walk.specs.declared.Refusal.{Refusal}
use mathlib.Core.Path.{◌≡◌, refl, sym, ap, ◌∙◌}
use mathlib.Core.Bool.{Bool}
use mathlib.Core.List.{List, [], ◌++◌}
use Prim.Native.Nat.{ℕ, zero, suc, ◌≤◌}
use native.Mathlib.Omega.{arith}
use lib.ListN.{length}
use Rattle.hash.specs.Bytes.{Id}
use Rattle.odb.specs.Store.{entries}
use Rattle.walk.specs.Opening.{Input, width_in, list_ids, room_for}
use Rattle.walk.specs.Universe.{parents_up_to, store_parents}
use Rattle.walk.specs.Given.{open_given}
use Rattle.reach.specs.Search.{noted, reached_from, reach_list}
use Rattle.reach.specs.Tested.{tested_over, tested_refusal, after_tests, tested_open}
use Rattle.traverse.specs.declared.Opened.{Opened}
use Rattle.traverse.specs.Contract.{Lent, lengths_of}
use Rattle.traverse.specs.Demand.{Call, Calls, files_of, CallIs}
use Rattle.traverse.proofs.Calls.{calls-shut}
use Rattle.opentested.specs.Contract.{TestedOpenSays}
use Rattle.opentested.proofs.Listing.{as-opened, refused-closed}
use Rattle.embargo.specs.Embargo.{DifferOnlyInFeed}
use Rattle.embargo.specs.Outside.{over, Alike}
use Rattle.embargo.specs.Tested.{SameTested, EmbargoTested}
use Rattle.embargo.proofs.Stores.{entries-same}
use Rattle.embargo.proofs.Worlds.{entry-same}
use Rattle.embargo.proofs.Walks.{world_same, room-same, same-walk}
use Rattle.embargo.proofs.Called.{shut_alike, calls-alike}

module _ (i : Input) (es : List Id) (a b : List ℕ) (d : DifferOnlyInFeed (width_in i) es a b) where
  -- ---- what is reached

  parents-same : (k : ℕ) → k ≤ entries a → parents_up_to (width_in i) a k ≡ parents_up_to (width_in i) b k
  unfolding parents_up_to
  parents-same zero h = refl
  parents-same (suc k) h = λ j. parents-same k (omega arith) j ++ (entry-same (width_in i) es a b d k (omega arith) j).ids

  names_same : store_parents (width_in i) a ≡ store_parents (width_in i) b
  unfolding store_parents
  names_same = parents-same (entries a) (omega arith) ∙ ap (parents_up_to (width_in i) b) (entries-same (width_in i) a b d.good d.same_length d.same_entries)

  reach-same : (g : List ℕ) (roots : List Id) → reach_list (width_in i) a g roots ≡ reach_list (width_in i) b g roots
  unfolding reach_list
  reach-same g roots = λ j. reached_from (world_same i es a b d g j) (length (roots ++ names_same j)) 0 (noted [] roots)

  -- ---- the tests

  tests_same : tested_refusal (over i a) ≡ tested_refusal (over i b)
  unfolding tested_refusal
  tests_same = λ j. tested_over (world_same i es a b d i.graph j) (reach-same i.graph (list_ids (width_in i) i.tips ++ list_ids (width_in i) i.hidden) j)

  tested-same : (room : Bool) → tested_open (over i a) room ≡ tested_open (over i b) room
  unfolding tested_open
  tested-same room = λ j. after_tests ((same-walk i es a b d).opening room j) (tests_same j)

  tested-alike : (m n : Lent) → lengths_of m ≡ lengths_of n → (o q : Opened) (m' n' : Lent) → TestedOpenSays (over i a) m o m' → TestedOpenSays (over i b) n q n' → o.answer ≡ q.answer
  tested-alike m n e o q m' n' s t =
      let p = tested-same (room_for (over i a) (lengths_of m)) ∙ ap (tested_open (over i b)) (room-same i es a b d (lengths_of m) ∙ ap (room_for (over i b)) e) in
      s.answer ∙ ap open_given p ∙ sym t.answer

  -- ---- the calls

  after-alike : (m n : Lent) → lengths_of m ≡ lengths_of n → (o q : Opened) (m' n' : Lent) → TestedOpenSays (over i a) m o m' → TestedOpenSays (over i b) n q n'
      → (cs ds : List Call) → Calls (files_of (over i a)) o.record m' cs → Calls (files_of (over i b)) q.record n' ds
      → (k : ℕ) (c f : Call) → CallIs cs k c → CallIs ds k f → Alike c f
  after-alike m n e o q m' n' s t cs ds u v k c f x y = go o.answer.outcome refl
    where
      same : q.answer.outcome ≡ o.answer.outcome
      same = sym (ap (λ z. z.outcome) (tested-alike m n e o q m' n' s t))

      go : (z : Result (Unit {0}) Refusal) → o.answer.outcome ≡ z → Alike c f
      go (Ok _) p = calls-alike i es a b d m n e o q m' n' (as-opened s p) (as-opened t (same ∙ p)) cs ds u v k c f x y
      go (Err r) p =
          shut_alike (calls-shut (files_of (over i a)) o.record m' cs (refused-closed s r p) u k c x)
          (calls-shut (files_of (over i b)) q.record n' ds (refused-closed t r (same ∙ p)) v k f y)

pub embargo_tested : EmbargoTested
unfolding EmbargoTested
embargo_tested i e a b d = record {
  opening = tested-same i (list_ids (width_in i) e) a b d;
  opened = tested-alike i (list_ids (width_in i) e) a b d;
  called = after-alike i (list_ids (width_in i) e) a b d;
}
