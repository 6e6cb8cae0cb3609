-- What all tests of an opening come to: they pass exactly where the walk's opening leaves a state, and then the input passes 2 to 6, every
-- lent buffer has its size, and under a time order every remaining tip has its seconds in the store.
-- Assumes nothing.
use Rattle.std.specs.Prelude.{Err, None, Ok, Option, Some}
use mathlib.Core.Path.{◌≡◌, refl, sym, ◌∙◌, ap}
use Prim.Native.Nat.{ℕ}
use mathlib.Core.Bool.{Bool, true, false}
use mathlib.Core.List.{[]}
use native.Mathlib.Omega.{arith}
use lib.IntN.{ℤ}
use Rattle.hash.specs.Bytes.{Id, among}
use Rattle.hash.proofs.Tests.{by_cases}
use Rattle.walk.specs.declared.Refusal.{Refusal}
use Rattle.walk.specs.declared.Refusal.TheVariants.{BufferTooSmall}
use Rattle.walk.specs.Settings.{timed}
use Rattle.walk.specs.Lookup.{world_of, store_seconds}
use Rattle.walk.specs.State.{State}
use Rattle.walk.specs.Opening.{Input, list_ids, distinct, refusal, Opening, closed, opened, open_tips, open_or, open_walk, width_in}
use Rattle.walk.specs.Reach.{Mem}
use Rattle.opening.specs.Checks.{checked_by}
use Rattle.opening.proofs.Tips.{first_fault, fine_as, open-timed, distinct_fault, no_fault, among_none}

-- ---- which test decides

module _ (i : Input) (room : Bool) where
  pub open-refused : {r : Refusal} → refusal i ≡ Some r → checked_by (open_walk i room) ≡ Err r
  unfolding open_walk open_or
  open-refused e = rw e

  pub open-short : refusal i ≡ None → room ≡ false → checked_by (open_walk i room) ≡ Err BufferTooSmall
  unfolding open_walk open_or open_tips
  open-short e h = rw (e, h)

  pub open_roomy : refusal i ≡ None → room ≡ true → open_walk i room ≡ open_tips i true
  unfolding open_walk open_or open_tips
  open_roomy e h = rw (e, h)

-- ---- the tests pass

pub fine_state : (o : Opening) → (Ok tt) ≡ checked_by o → (st : State) × (o ≡ opened st)
fine_state (closed r) e = let z : ◌≡◌ {A = ℕ} 0 1 = cc in absurd (omega arith)
fine_state (opened st) e = (st, refl)

pub refused-closed : (o : Opening) {r : Refusal} → Err r ≡ checked_by o → o ≡ closed r
refused-closed (closed q) e = cc
refused-closed (opened st) e = let z : ◌≡◌ {A = ℕ} 0 1 = cc in absurd (omega arith)

-- what `check` ensures where it answers Fine
pub record Opens (i : Input) (room : Bool) : Type 0 where
  pub accepted : refusal i ≡ None
  pub has_room : room ≡ true
  pub state : State
  pub opens_as : open_walk i room ≡ opened state
  pub opens_true : open_walk i true ≡ opened state

pub opens : (i : Input) (room : Bool) → (Ok tt) ≡ checked_by (open_walk i room) → Opens i room
opens i room e =
    let s = fine_state (open_walk i room) e in
    let a : refusal i ≡ None = go (refusal i) refl in
    let r : room ≡ true = by_cases room (λ h. h) (λ h. short a h) in
    record { accepted = a; has_room = r; state = s.0; opens_as = s.1; opens_true = ap (open_walk i) (sym r) ∙ s.1 }
  where
    go : (o : Option Refusal) → refusal i ≡ o → refusal i ≡ None
    go None k = k
    go (Some r) k = let z : (Ok tt) ≡ Err r = e ∙ open-refused i room k in let y : ◌≡◌ {A = ℕ} 0 1 = cc in absurd (omega arith)

    short : refusal i ≡ None → room ≡ false → room ≡ true
    short a h = let z : (Ok tt) ≡ Err BufferTooSmall = e ∙ open-short i room a h in let y : ◌≡◌ {A = ℕ} 0 1 = cc in absurd (omega arith)

-- ---- the tips of an opened walk, under a time order

module _ (i : Input) (st : State) (e : open_walk i true ≡ opened st) (t : timed i.settings.sorting ≡ true) where
  none-at-fault : first_fault (world_of (width_in i) i.store i.graph) (list_ids (width_in i) i.excluded) (list_ids (width_in i) i.tips) ≡ None
  none-at-fault =
      let a : refusal i ≡ None = (opens i true (sym (ap checked_by e))).accepted in
      fine_as _ (sym (ap checked_by e) ∙ ap checked_by (open_roomy i true a refl) ∙ open-timed i t)

  -- each tip that is lent and not excluded
  pub tip-seconds : (x : Id) → Mem x (list_ids (width_in i) i.tips) → among x (list_ids (width_in i) i.excluded) ≡ false → (s : ℤ) × (store_seconds (world_of (width_in i) i.store i.graph) x ≡ Some s)
  tip-seconds x m a = no_fault (world_of (width_in i) i.store i.graph) (list_ids (width_in i) i.excluded) (list_ids (width_in i) i.tips) none-at-fault x m a

  -- each tip that is left without repeats and excluded ids
  pub remaining-seconds : (x : Id) → Mem x (distinct [] (list_ids (width_in i) i.excluded) (list_ids (width_in i) i.tips)) → (s : ℤ) × (store_seconds (world_of (width_in i) i.store i.graph) x ≡ Some s)
  remaining-seconds x m =
      let u = world_of (width_in i) i.store i.graph in
      no_fault u [] (distinct [] (list_ids (width_in i) i.excluded) (list_ids (width_in i) i.tips))
      (distinct_fault u (list_ids (width_in i) i.excluded) (list_ids (width_in i) i.tips) ∙ none-at-fault) x m (among_none x)
