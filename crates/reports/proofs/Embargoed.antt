-- The embargoed list among the lists: it is tested for 2 before all else and for 3 after every 2, so the opening with it is its own fault, or else the
-- opening without it. Assumes nothing.
use Rattle.std.specs.Prelude.{Err, None, Ok, Option, Some}
use mathlib.Core.Path.{◌≡◌, refl, sym, ◌∙◌, ap}
use Prim.Native.Nat.{ℕ, ◌%◌}
use mathlib.Core.Bool.{Bool, true, false, cond, ◌&&◌}
use mathlib.Core.List.{List}
use native.Mathlib.Omega.{arith}
use lib.ListN.{length}
use lib.Dec.{eqb, leb}
use Rattle.hash.specs.Bytes.{width_of}
use Rattle.hash.specs.declared.Kind.{Kind}
use Rattle.walk.specs.declared.Refusal.{Refusal}
use Rattle.walk.specs.declared.Refusal.TheVariants.{InputTooLarge, PartialId}
use Rattle.walk.specs.State.{State}
use Rattle.walk.specs.Opening.{Input, width_in, list_limit, sizes_ok, whole_ids, refusal, Opening, closed, opened, open_or, open_walk}
use Rattle.opening.specs.Checks.{input_of, checked_of}
use Rattle.reports.specs.Report.{good_list, open_embargoed, embargo_fault}

-- ---- openings

pub closed_is : {p q : Refusal} → closed p ≡ closed q → p ≡ q
closed_is e = cc

pub not_opened {ℓ} : {X : Type ℓ} {q : Refusal} {st : State} → closed q ≡ opened st → X
not_opened e = let z : ◌≡◌ {A = ℕ} 0 1 = cc in absurd (omega arith)

abbrev after : Option Refusal → Opening → Opening
after None o = o
after (Some q) o = closed q

module _ (i : Input) (room : Bool) where
  too_large : sizes_ok i ≡ false → open_walk i room ≡ closed InputTooLarge
  unfolding open_walk open_or refusal
  too_large e = rw e

  partial : sizes_ok i ≡ true → whole_ids i ≡ false → open_walk i room ≡ closed PartialId
  unfolding open_walk open_or refusal
  partial e h = rw (e, h)

  -- by the four tests: the sizes and the lists of the opening, the size of the embargoed list and whether it is of whole ids
  by_tests : (a b f g : Bool) (o : Opening) → (a ≡ false → o ≡ closed InputTooLarge) → (a ≡ true → b ≡ false → o ≡ closed PartialId)
      → cond (a && f) (cond (b && g) o (closed PartialId)) (closed InputTooLarge)
      ≡ after (cond f (cond g None (cond a (Some PartialId) (Some InputTooLarge))) (Some InputTooLarge)) o
  by_tests false b false g o p q = refl
  by_tests false b true false o p q = refl
  by_tests false b true true o p q = sym (p refl)
  by_tests true b false g o p q = refl
  by_tests true false true false o p q = refl
  by_tests true true true false o p q = refl
  by_tests true false true true o p q = sym (q refl refl)
  by_tests true true true true o p q = refl

  opens_as : (e : List ℕ) → open_embargoed i e room ≡ after (embargo_fault i e) (open_walk i room)
  unfolding open_embargoed embargo_fault
  opens_as e = by_tests (sizes_ok i) (whole_ids i) (leb (length e) (list_limit (width_in i))) (eqb (length e % width_in i) 0) (open_walk i room) too_large partial

pub fine_opens : (i : Input) (e : List ℕ) (room : Bool) → embargo_fault i e ≡ None → open_embargoed i e room ≡ open_walk i room
fine_opens i e room h = opens_as i room e ∙ ap (λ (q : Option Refusal). after q (open_walk i room)) h

pub fault_opens : (i : Input) (e : List ℕ) (room : Bool) (q : Refusal) → embargo_fault i e ≡ Some q → open_embargoed i e room ≡ closed q
fault_opens i e room q h = opens_as i room e ∙ ap (λ (p : Option Refusal). after p (open_walk i room)) h

both-good : (f g : Bool) (x : Option Refusal) → f && g ≡ true → cond f (cond g None x) (Some InputTooLarge) ≡ None
both-good true true x h = refl
both-good true false x h = let z : ◌≡◌ {A = ℕ} 0 1 = cc in absurd (omega arith)
both-good false g x h = let z : ◌≡◌ {A = ℕ} 0 1 = cc in absurd (omega arith)

-- with a good list it is the opening without it
pub good-opens : (i : Input) (e : List ℕ) (room : Bool) → good_list (width_in i) e ≡ true → open_embargoed i e room ≡ open_walk i room
unfolding embargo_fault
good-opens i e room h =
    fine_opens i e room (both-good (leb (length e) (list_limit (width_in i))) (eqb (length e % width_in i) 0) (cond (sizes_ok i) (Some PartialId) (Some InputTooLarge)) h)

-- ---- the tests one after another

-- by what they answer
pub fault_is : (o : Option Refusal) (q : Refusal) → checked_of o ≡ Err q → o ≡ Some q
fault_is None q e = let z : ◌≡◌ {A = ℕ} 0 1 = cc in absurd (omega arith)
fault_is (Some p) q e = let z : p ≡ q = cc in ap Some z

pub none_is : (o : Option Refusal) → checked_of o ≡ (Ok tt) → o ≡ None
none_is None e = refl
none_is (Some p) e = let z : ◌≡◌ {A = ℕ} 0 1 = cc in absurd (omega arith)

-- the tests of a list by a kind, where it is the opening's
pub as_fits : {k q : Kind} {b : Bool} (l : List ℕ) → k ≡ q → leb (length l) (list_limit (width_of q)) ≡ b → leb (length l) (list_limit (width_of k)) ≡ b
as_fits l p h = ap (λ (j : Kind). leb (length l) (list_limit (width_of j))) p ∙ h

pub as_whole : {k q : Kind} {b : Bool} (l : List ℕ) → k ≡ q → eqb (length l % width_of q) 0 ≡ b → eqb (length l % width_of k) 0 ≡ b
as_whole l p h = ap (λ (j : Kind). eqb (length l % width_of j) 0) p ∙ h

and_false : (a : Bool) → a && false ≡ false
and_false true = refl
and_false false = refl

module _ (i : Input) (e : List ℕ) where
  pub by_length : leb (length e) (list_limit (width_in i)) ≡ false → Some InputTooLarge ≡ embargo_fault i e
  unfolding embargo_fault
  by_length h = rw h

  module _ (l : leb (length e) (list_limit (width_in i)) ≡ true) where
    pub by_whole : eqb (length e % width_in i) 0 ≡ true → None ≡ embargo_fault i e
    unfolding embargo_fault
    by_whole h = rw (l, h)

    module _ (r : eqb (length e % width_in i) 0 ≡ false) where
      by-sizes : (b : Bool) → sizes_ok i ≡ b → cond b (Some PartialId) (Some InputTooLarge) ≡ embargo_fault i e
      unfolding embargo_fault
      by-sizes b h = rw (l, r, h)

      -- 2 of the excluded ids
      pub by-excluded : leb (length i.excluded) (list_limit (width_in i)) ≡ false → Some InputTooLarge ≡ embargo_fault i e
      unfolding sizes_ok
      by-excluded h =
          by-sizes false
          (ap (λ (b : Bool). leb (length i.store) 16777216 && leb (length i.graph) 16777216 && leb (length i.tips) (list_limit (width_in i)) && leb (length i.hidden) (list_limit (width_in i)) && b) h
          ∙ and_false (leb (length i.store) 16777216 && leb (length i.graph) 16777216 && leb (length i.tips) (list_limit (width_in i)) && leb (length i.hidden) (list_limit (width_in i))))

      -- 2 and 3 with the embargoed list in the place of the excluded ids, which are not too many
      in_place : (a b : Bool) (x : Option Refusal) → cond (a && true) (cond (b && false) x (Some PartialId)) (Some InputTooLarge) ≡ cond (a && true) (Some PartialId) (Some InputTooLarge)
      in_place false b x = refl
      in_place true false x = refl
      in_place true true x = refl

      pub by-others : leb (length i.excluded) (list_limit (width_in i)) ≡ true → refusal (input_of i.store i.graph i.tips i.hidden e i.settings) ≡ embargo_fault i e
      unfolding refusal sizes_ok whole_ids
      by-others h =
          let a : Bool = leb (length i.store) 16777216 && leb (length i.graph) 16777216 && leb (length i.tips) (list_limit (width_in i)) && leb (length i.hidden) (list_limit (width_in i)) in
          let b : Bool = eqb (length i.tips % width_in i) 0 && eqb (length i.hidden % width_in i) 0 in
          rw (l, r) (in_place a b _) ∙ by-sizes (a && true) (ap (λ (z : Bool). a && z) h)
