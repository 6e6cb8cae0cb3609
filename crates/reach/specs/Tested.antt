-- What a tested opening (document 02, card 1) tests over everything reachable from all tips and hidden tips, and its verdict. Assumes nothing.
use Rattle.std.specs.Prelude.{ℕ, ◌≡◌, ◌↔◌, Bool, true, false, cond, not, ◌&&◌, List, [], ◌∷◌, ◌++◌, map, ℤ, None, Option, Some}
use Rattle.std.specs.Int.Signed.{lt_z}
use Rattle.hash.specs.Bytes.{Id, eq_id}
use Rattle.walk.specs.declared.Refusal.{Refusal}
use Rattle.walk.specs.declared.Refusal.TheVariants.{UnreadableReach, GraphAtOdds, PairNotFalling}
use Rattle.walk.specs.Lookup.{World, world_of, Row, no_row, corrupt, row, Read, fail, good, from_store, store_seconds, lt_pair}
use Rattle.walk.specs.State.{Walk}
use Rattle.walk.specs.Opening.{Input, walk_of, list_ids, Opening, closed, opened, open_walk, width_in}
use Rattle.walk.specs.Reach.{Mem, links}
use Rattle.walk.specs.Demand.{Readable, Agrees, Region, pair_at, Premises}
use Rattle.reach.specs.Search.{reach_list}

-- ---- the tests, computed

-- a test of each id of a list
unfoldable pub each : (Id → Bool) → List Id → Bool
each f [] = true
each f (x ∷ l) = let r = each f l in cond (f x) r false

unfoldable pub is_good : Read → Bool
is_good (fail r) = false
is_good (good ps p) = true

-- "every commit is readable in the book"
unfoldable pub readable_in : World → Id → Bool
readable_in w x = is_good (from_store (w.store x))

-- the same ids in the same order
unfoldable pub same_ids : List Id → List Id → Bool
same_ids [] [] = true
same_ids [] (y ∷ b) = false
same_ids (x ∷ a) [] = false
same_ids (x ∷ a) (y ∷ b) = let r = same_ids a b in cond (eq_id x y) r false

-- the same seconds: neither lies before the other
unfoldable pub same_time : ℤ → ℤ → Bool
same_time a b = not (lt_z a b) && not (lt_z b a)

unfoldable pub same_seconds : Option ℤ → ℤ → Bool
same_seconds None s = false
same_seconds (Some t) s = same_time t s

-- "the graph agrees": a commit that it lists has there its book parents, in order, and its book seconds
unfoldable pub row_agrees : Row → List Id → Option ℤ → Bool
row_agrees no_row ps t = true
row_agrees corrupt ps t = false
row_agrees (row qs l s) ps t = same_ids (map (λ q. q.0) qs) ps && same_seconds t s

unfoldable pub agrees_in : World → Id → Bool
agrees_in w x = row_agrees (w.graph x) (links w x) (store_seconds w x)

-- "each pair falls", from a commit to each parent
unfoldable pub falls_in : World → Id → Bool
falls_in w x = each (λ p. lt_pair (pair_at w p) (pair_at w x)) (links w x)

-- "13 unreadable reach, 14 graph at odds, 15 pair not falling; tested in that order", each over all that is reached
unfoldable pub judged : Bool → Bool → Bool → Option Refusal
judged readable agrees falls =
    let fifteen : Option Refusal = cond falls None (Some PairNotFalling) in
    let fourteen : Option Refusal = cond agrees fifteen (Some GraphAtOdds) in
    cond readable fourteen (Some UnreadableReach)

unfoldable pub tested_over : World → List Id → Option Refusal
tested_over w l = judged (each (readable_in w) l) (each (agrees_in w) l) (each (falls_in w) l)

-- "everything reachable from all given tips and hidden tips, over all the book's parents"
unfoldable pub tested_refusal : Input → Option Refusal
tested_refusal i = tested_over (world_of (width_in i) i.store i.graph) (reach_list (width_in i) i.store i.graph (list_ids (width_in i) i.tips ++ list_ids (width_in i) i.hidden))

-- "where 1 to 8 do not apply"
abbrev pub after_tests : Opening → Option Refusal → Opening
after_tests (closed r) t = closed r
after_tests (opened st) None = opened st
after_tests (opened st) (Some r) = closed r

-- a tested opening; `room` says whether every lent buffer has its size
unfoldable pub tested_open : Input → Bool → Opening
tested_open i room = after_tests (open_walk i room) (tested_refusal i)

-- ---- what they decide

module _ (v : Walk) (tips : List Id) where
  -- "every commit is readable in the book, the graph agrees, and each pair falls"
  unfoldable pub RegionReadable : Type 0
  RegionReadable = (x : Id) → Region v tips x → Readable v.world x

  unfoldable pub RegionAgrees : Type 0
  RegionAgrees = (x : Id) → Region v tips x → Agrees v.world x

  unfoldable pub RegionFalls : Type 0
  RegionFalls = (x p : Id) → Region v tips x → Mem p (links v.world x) → lt_pair (pair_at v.world p) (pair_at v.world x) ≡ true

  -- 13 unreadable reach, 14 graph at odds, 15 pair not falling; "tested in that order"
  pub data Verdict : Type 0 where
    passes : RegionReadable → RegionAgrees → RegionFalls → Verdict
    unreadable : (RegionReadable → ⊥) → Verdict
    at-odds : RegionReadable → (RegionAgrees → ⊥) → Verdict
    not-falling : RegionReadable → RegionAgrees → (RegionFalls → ⊥) → Verdict

-- the number of a verdict: 0 where it passes
abbrev pub verdict_number : {v : Walk} {tips : List Id} → Verdict v tips → ℕ
verdict_number (passes a b c) = 0
verdict_number (unreadable a) = 13
verdict_number (at-odds a b) = 14
verdict_number (not-falling a b c) = 15

-- the refusal of a verdict
abbrev pub verdict_refusal : {v : Walk} {tips : List Id} → Verdict v tips → Option Refusal
verdict_refusal (passes a b c) = None
verdict_refusal (unreadable a) = Some UnreadableReach
verdict_refusal (at-odds a b) = Some GraphAtOdds
verdict_refusal (not-falling a b c) = Some PairNotFalling

-- "accepts exactly when every commit is readable in the book, the graph agrees, and each pair falls": the third demand's premises; and each
-- number exactly where its test is the first to fail
pub record TestsDecide (i : Input) : Type 0 where
  pub accepted : (tested_refusal i ≡ None) ↔ Premises (walk_of i) (list_ids (width_in i) i.tips)
  pub thirteen : (tested_refusal i ≡ Some UnreadableReach) ↔ (RegionReadable (walk_of i) (list_ids (width_in i) i.tips) → ⊥)
  pub fourteen : (tested_refusal i ≡ Some GraphAtOdds) ↔ (RegionReadable (walk_of i) (list_ids (width_in i) i.tips) × (RegionAgrees (walk_of i) (list_ids (width_in i) i.tips) → ⊥))
  pub fifteen : (tested_refusal i ≡ Some PairNotFalling) ↔ (RegionReadable (walk_of i) (list_ids (width_in i) i.tips) × RegionAgrees (walk_of i) (list_ids (width_in i) i.tips) × (RegionFalls (walk_of i) (list_ids (width_in i) i.tips) → ⊥))
