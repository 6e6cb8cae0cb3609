-- An opening tip by tip, with no premises: what the empty state has, and what each tip keeps whether it waits or the cutoff turns it away, the opened state has.
-- Assumes nothing.
use Rattle.std.specs.Prelude.{None, Option, Some}
use mathlib.Core.Path.{◌≡◌, refl, sym, ◌∙◌, ap, subst}
use mathlib.Core.Bool.{Bool, true, false, cond}
use Prim.Native.Nat.{ℕ}
use mathlib.Core.List.{List, [], ◌∷◌}
use native.Mathlib.Omega.{arith}
use lib.IntN.{ℤ, pos}
use Rattle.hash.specs.Bytes.{Id, if_some}
use Rattle.walk.specs.declared.Refusal.{Refusal}
use Rattle.walk.specs.declared.Refusal.TheVariants.{TipNotFound, TipUnreadable}
use Rattle.walk.specs.Settings.{not_before, cutoff_of, timed}
use Rattle.walk.specs.State.{Walk, State, waits, sees, empty_state}
use Rattle.walk.specs.Opening.{distinct, opened, tips_in, Input, walk_of, list_ids, open_walk, open_or, open_tips, refusal, closed, Opening, width_in}

-- ---- an opening that is accepted

no-opened {ℓ} : {X : Type ℓ} (n : Refusal) (st : State) → closed n ≡ opened st → X
no-opened n st e = let z : ◌≡◌ {A = ℕ} 0 1 = cc in absurd (omega arith)

pub opened_test : (P : Type 0) (b : Bool) (x y : Opening) (st : State) → cond b x y ≡ opened st → (x ≡ opened st → P) → (y ≡ opened st → P) → P
opened_test P true x y st e f g = f e
opened_test P false x y st e f g = g e

pub opened_some : {A : Type 0} (P : Type 0) (o : Option A) (n : Refusal) (f : A → Opening) (st : State) → if_some o (closed n) f ≡ opened st → ((a : A) → f a ≡ opened st → P) → P
opened_some P None n f st e g = no-opened n st e
opened_some P (Some a) n f st e g = g a e

-- ---- tip by tip

module _ (v : Walk) where
  -- Q xs st: of a state before the tips xs
  module _ (Q : List Id → State → Type 0)
      (by-waiting : (x : Id) (xs : List Id) (st : State) (t : ℤ) → Q (x ∷ xs) st → Q xs (waits v st x t))
      (by-turning : (x : Id) (xs : List Id) (st : State) → Q (x ∷ xs) st → Q xs (sees st x)) where
    pub tips-keep : (xs : List Id) (st st' : State) → Q xs st → tips_in v xs st ≡ opened st' → Q [] st'
    unfolding tips_in
    tips-keep [] st st' q e = let k : st ≡ st' = cc in subst (Q []) k q
    tips-keep (x ∷ xs) st st' q e =
        opened_test (Q [] st') (timed v.settings.sorting) _ _ st' e
        (λ e₁. opened_some (Q [] st') (v.world.store x) TipNotFound _ st' e₁
        (λ h e₂. opened_some (Q [] st') h.seconds TipUnreadable _ st' e₂
        (λ t e₃. opened_test (Q [] st') (not_before (cutoff_of v.settings.sorting) t) _ _ st' e₃
        (λ e₄. tips-keep xs (waits v st x t) st' (by-waiting x xs st t q) e₄)
        (λ e₄. tips-keep xs (sees st x) st' (by-turning x xs st q) e₄))))
        (λ e₁. tips-keep xs (waits v st x (pos 0)) st' (by-waiting x xs st (pos 0) q) e₁)

or_closed : (i : Input) (r : Refusal) (st : State) → open_or i true (Some r) ≡ opened st → closed r ≡ opened st
unfolding open_or
or_closed i r st e = e

pub open_accepted : (i : Input) (st : State) → open_walk i true ≡ opened st → refusal i ≡ None
unfolding open_walk
open_accepted i st e = go (refusal i) refl e
  where
    go : (n : Option Refusal) → refusal i ≡ n → open_or i true n ≡ opened st → refusal i ≡ None
    go None k f = k
    go (Some r) k f = no-opened r st (or_closed i r st f)

pub open_tips_lem : (i : Input) (st : State) → open_walk i true ≡ opened st → tips_in (walk_of i) (distinct [] (walk_of i).excluded (list_ids (width_in i) i.tips)) empty_state ≡ opened st
unfolding open_walk open_or open_tips walk_of
open_tips_lem i st e = sym (ap (λ (n : Option Refusal). open_or i true n) (open_accepted i st e)) ∙ e

-- an accepted opening lets the tips in, without repeats and excluded ids
pub open_keep : (i : Input) (Q : List Id → State → Type 0)
    → ((x : Id) (xs : List Id) (st : State) (t : ℤ) → Q (x ∷ xs) st → Q xs (waits (walk_of i) st x t))
    → ((x : Id) (xs : List Id) (st : State) → Q (x ∷ xs) st → Q xs (sees st x))
    → Q (distinct [] (walk_of i).excluded (list_ids (width_in i) i.tips)) empty_state → (st : State) → open_walk i true ≡ opened st → Q [] st
open_keep i Q w t q st e = tips-keep (walk_of i) Q w t (distinct [] (walk_of i).excluded (list_ids (width_in i) i.tips)) empty_state st q (open_tips_lem i st e)
