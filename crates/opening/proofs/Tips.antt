-- Refusals 7 and 8: letting the tips in under a time order is closed by the first fault in list order, and by nothing else. A repeated tip
-- has no fault of its own: had its first place had one, that would have been the first.
-- Assumes nothing.
use Rattle.std.specs.Prelude.{Err, None, Ok, Option, Result, Some}
use mathlib.Core.Path.{◌≡◌, refl, sym, ◌∙◌, ap, subst}
use mathlib.Core.Logic.{◌⊎◌, inl, inr, ⊎_elim}
use Prim.Native.Nat.{ℕ}
use mathlib.Core.Bool.{Bool, true, false, cond}
use mathlib.Core.List.Memᴰ
use mathlib.Core.List.{List, [], ◌∷◌}
use native.Mathlib.Omega.{arith}
use lib.IntN.{ℤ, pos}
use Rattle.hash.specs.Bytes.{Id, eq_id, among, if_some}
use Rattle.hash.proofs.Tests.{by_cases, clash, or_right, no-some}
use Rattle.hash.proofs.Ids.{eq_id_eq}
use Rattle.object.specs.Header.{Header}
use Rattle.object.specs.Read.{seconds_read}
use Rattle.odb.specs.Store.{store_is_ok}
use Rattle.walk.specs.declared.Refusal.{Refusal}
use Rattle.walk.specs.declared.Refusal.TheVariants.{TipNotFound, TipUnreadable}
use Rattle.walk.specs.Settings.{timed, cutoff_of, not_before}
use Rattle.walk.specs.Lookup.{World, world_of, store_seconds}
use Rattle.walk.specs.State.{Walk, State, empty_state, sees, waits}
use Rattle.walk.specs.Opening.{Input, walk_of, list_ids, distinct, Opening, closed, tips_in, open_tips, width_in}
use Rattle.walk.specs.Reach.{Mem}
use Rattle.reading.specs.Tip.{tip_of, tip_seconds, ReadsTip}
use Rattle.date.specs.declared.Seconds.{Seconds}
use Rattle.reading.specs.declared.tip.TipError.{TipError}
use Rattle.reading.specs.declared.tip.TipError.TheVariants.{Missing, Unreadable}
use Rattle.reading.proofs.Tips.{tip_right}
use Rattle.opening.specs.Checks.{checked_of, checked_by, fault_of, TestsTips, no_tip, skipped, good_tip, at_fault, ChecksTips}

-- ---- answers

pub refused_as : (o : Option Refusal) {r : Refusal} → Err r ≡ checked_of o → o ≡ Some r
refused_as None e = let z : ◌≡◌ {A = ℕ} 0 1 = cc in absurd (omega arith)
refused_as (Some q) e = cc

pub fine_as : (o : Option Refusal) → (Ok tt) ≡ checked_of o → o ≡ None
fine_as None e = refl
fine_as (Some q) e = let z : ◌≡◌ {A = ℕ} 0 1 = cc in absurd (omega arith)

-- ---- one tip

-- the fault of a tip, by what the store has under it, else rest
unfoldable pub fault_or : Option Header → Option Refusal → Option Refusal
fault_or o rest = if_some o (Some TipNotFound) λ h. if_some h.seconds (Some TipUnreadable) λ t. rest

-- a tip has a fault, whatever comes after it, or it has seconds and what comes after it decides
pub fault_cases : (o : Option Header)
    → ((r : Refusal) × ((rest : Option Refusal) → fault_or o rest ≡ Some r))
    ⊎ ((t : ℤ) × (if_some o None (λ h. h.seconds) ≡ Some t) × ((rest : Option Refusal) → fault_or o rest ≡ rest))
unfolding fault_or
fault_cases None = inl (TipNotFound, λ rest. refl)
fault_cases (Some h) = go h.seconds
  where
    go : (s : Option ℤ)
        → ((r : Refusal) × ((rest : Option Refusal) → if_some s (Some TipUnreadable) (λ t. rest) ≡ Some r))
        ⊎ ((t : ℤ) × (s ≡ Some t) × ((rest : Option Refusal) → if_some s (Some TipUnreadable) (λ t. rest) ≡ rest))
    go None = inl (TipUnreadable, λ rest. refl)
    go (Some t) = inr (t, refl, λ rest. refl)

module _ (o : Option Header) where
  pub fault-some : {r : Refusal} → fault_or o None ≡ Some r → (rest : Option Refusal) → fault_or o rest ≡ Some r
  fault-some e rest = ⊎_elim (λ a. a.1 rest ∙ sym (a.1 None) ∙ e) (λ b. no-some (sym (b.2 None) ∙ e)) (fault_cases o)

  pub fault-none : fault_or o None ≡ None → (rest : Option Refusal) → fault_or o rest ≡ rest
  fault-none e rest = ⊎_elim (λ a. no-some (sym e ∙ a.1 None)) (λ b. b.2 rest) (fault_cases o)

-- what reading a tip told is its fault
pub tip_told : (o : Option Header) → fault_of (tip_of o) ≡ checked_of (fault_or o None)
unfolding fault_or
tip_told None = refl
tip_told (Some h) = go h.seconds
  where
    go : (s : Option ℤ) → fault_of (tip_seconds (seconds_read s)) ≡ checked_of (if_some s (Some TipUnreadable) (λ t. None))
    go None = refl
    go (Some t) = refl

-- ---- the first fault

-- of the tips that are not excluded, in their order
unfoldable pub first_fault : World → List Id → List Id → Option Refusal
first_fault w excluded [] = None
first_fault w excluded (x ∷ xs) =
    let r : Option Refusal = first_fault w excluded xs in
    let here : Option Refusal = fault_or (w.store x) r in
    cond (among x excluded) r here

module _ (w : World) (excluded : List Id) where
  pub skips : (x : Id) (xs : List Id) → among x excluded ≡ true → first_fault w excluded (x ∷ xs) ≡ first_fault w excluded xs
  unfolding first_fault
  skips x xs e = rw e

  pub reads : (x : Id) (xs : List Id) → among x excluded ≡ false → first_fault w excluded (x ∷ xs) ≡ fault_or (w.store x) (first_fault w excluded xs)
  unfolding first_fault
  reads x xs e = rw e

  pub no-tips : first_fault w excluded [] ≡ None
  unfolding first_fault
  no-tips = refl

  -- no fault: every tip that is not excluded has seconds in the store
  pub no_fault : (xs : List Id) → first_fault w excluded xs ≡ None → (x : Id) → Mem x xs → among x excluded ≡ false → (t : ℤ) × (store_seconds w x ≡ Some t)
  unfolding store_seconds
  no_fault [] e x m a = absurd (Memᴰ.not-nil m)
  no_fault (y ∷ ys) e x m a =
      by_cases (among y excluded)
      (λ h. ⊎_elim (λ k. clash (rw k h) a) (λ k. no_fault ys (sym (skips y ys h) ∙ e) x k a) (Memᴰ.cases_cons m))
      (λ h. ⊎_elim
      (λ f. no-some (sym e ∙ reads y ys h ∙ f.1 (first_fault w excluded ys)))
      (λ f. ⊎_elim
      (λ k. (f.0, rw k f.1))
      (λ k. no_fault ys (sym (reads y ys h ∙ f.2 (first_fault w excluded ys)) ∙ e) x k a)
      (Memᴰ.cases_cons m))
      (fault_cases (w.store y)))

-- ---- the tips as they are read, on any bytes

module _ {w : ℕ} {s : List ℕ} {excluded : List Id} {x : Id} where
  pub one-skipped : among x excluded ≡ true → TestsTips w s excluded (x ∷ []) (Ok tt)
  one-skipped a = skipped a no_tip

  pub one-read : {q : Result Seconds TipError} {c : Result (Unit {0}) Refusal} → among x excluded ≡ false → ReadsTip w s x q → c ≡ fault_of q → TestsTips w s excluded (x ∷ []) c
  one-read {q} a k e = subst (TestsTips w s excluded (x ∷ [])) (sym e) (go q k)
    where
      go : (q : Result Seconds TipError) → ReadsTip w s x q → TestsTips w s excluded (x ∷ []) (fault_of q)
      go (Ok t) k = good_tip a k refl no_tip
      go (Err Missing) k = at_fault a k refl
      go (Err Unreadable) k = at_fault a k refl

  -- a fault decides, whatever comes after it; and a tip without one leaves it to those after it
  pub one-refused : (xs : List Id) {c : Result (Unit {0}) Refusal} {why : Refusal} → TestsTips w s excluded (x ∷ []) c → c ≡ Err why → TestsTips w s excluded (x ∷ xs) (Err why)
  one-refused xs (skipped a no_tip) i = let z : ◌≡◌ {A = ℕ} 0 1 = cc in absurd (omega arith)
  one-refused xs (good_tip a k f no_tip) i = let z : ◌≡◌ {A = ℕ} 0 1 = cc in absurd (omega arith)
  one-refused xs (at_fault a k f) i = subst (TestsTips w s excluded (x ∷ xs)) i (at_fault a k f)

  pub one-fine : {xs : List Id} {c r : Result (Unit {0}) Refusal} → TestsTips w s excluded (x ∷ []) c → c ≡ (Ok tt) → TestsTips w s excluded xs r → TestsTips w s excluded (x ∷ xs) r
  one-fine (skipped a no_tip) i t = skipped a t
  one-fine (good_tip a k f no_tip) i t = good_tip a k f t
  one-fine (at_fault a k f) i t = let z : ◌≡◌ {A = ℕ} 0 1 = cc in absurd (omega arith)

-- in a good store they come to the first fault that the walk's world has
pub tests-right : {w : ℕ} {s : List ℕ} {excluded xs : List Id} {r : Result (Unit {0}) Refusal} → TestsTips w s excluded xs r → store_is_ok w s ≡ true → (g : List ℕ) → r ≡ checked_of (first_fault (world_of w s g) excluded xs)
tests-right {w} {s} {excluded} no_tip ok g = sym (ap checked_of (no-tips (world_of w s g) excluded))
tests-right {w} {s} {excluded} (skipped {x = x} {xs = xs} a t) ok g = tests-right t ok g ∙ sym (ap checked_of (skips (world_of w s g) excluded x xs a))
tests-right {w} {s} {excluded} (good_tip {x = x} {xs = xs} a k f t) ok g =
    let u = world_of w s g in
    let n : fault_or (u.store x) None ≡ None = fine_as (fault_or (u.store x) None) (sym f ∙ ap fault_of (tip_right k ok g) ∙ tip_told (u.store x)) in
    tests-right t ok g ∙ sym (ap checked_of (reads u excluded x xs a ∙ fault-none (u.store x) n (first_fault u excluded xs)))
tests-right {w} {s} {excluded} (at_fault {x = x} {xs = xs} {why = v} a k f) ok g =
    let u = world_of w s g in
    let n : fault_or (u.store x) None ≡ Some v = refused_as (fault_or (u.store x) None) (sym f ∙ ap fault_of (tip_right k ok g) ∙ tip_told (u.store x)) in
    sym (ap checked_of (reads u excluded x xs a ∙ fault-some (u.store x) n (first_fault u excluded xs)))

-- ---- repeats

among_or : (x y : Id) (l : List Id) → among x (y ∷ l) ≡ true → (x ≡ y) ⊎ (among x l ≡ true)
unfolding among
among_or x y l e = by_cases (eq_id x y) (λ h. inl (eq_id_eq x y h)) (λ h. inr (rw h at e))

pub among_none : (x : Id) → among x [] ≡ false
unfolding among
among_none x = refl

-- those met already have no fault
distinct_from : (w : World) (excluded had xs : List Id) → ((x : Id) → among x had ≡ true → fault_or (w.store x) None ≡ None)
    → first_fault w [] (distinct had excluded xs) ≡ first_fault w excluded xs
unfolding distinct
distinct_from w excluded had [] g = no-tips w [] ∙ sym (no-tips w excluded)
distinct_from w excluded had (x ∷ xs) g =
    by_cases (among x excluded)
    (λ e. rw (or_right (among x had) (among x excluded) e) (distinct_from w excluded had xs g ∙ sym (skips w excluded x xs e)))
    (λ e. by_cases (among x had)
    (λ h. rw h (distinct_from w excluded had xs g ∙ sym (reads w excluded x xs e ∙ fault-none (w.store x) (g x h) (first_fault w excluded xs))))
    (λ h. rw (h, e) (reads w [] x (distinct (x ∷ had) excluded xs) (among_none x) ∙ ⊎_elim
    (λ f. f.1 _ ∙ sym (f.1 _) ∙ sym (reads w excluded x xs e))
    (λ f. ap (fault_or (w.store x)) (distinct_from w excluded (x ∷ had) xs (λ y k. ⊎_elim (λ q. rw q (f.2 None)) (g y) (among_or y x had k))) ∙ sym (reads w excluded x xs e))
    (fault_cases (w.store x)))))

pub distinct_fault : (w : World) (excluded xs : List Id) → first_fault w [] (distinct [] excluded xs) ≡ first_fault w excluded xs
distinct_fault w excluded xs = distinct_from w excluded [] xs (λ x e. clash e (among_none x))

-- ---- letting the tips in

by_option : {A : Type 0} (o : Option A) (r : Refusal) (f : A → Opening) (g : A → Option Refusal) → ((a : A) → checked_by (f a) ≡ checked_of (g a))
    → checked_by (if_some o (closed r) f) ≡ checked_of (if_some o (Some r) g)
by_option None r f g h = refl
by_option (Some a) r f g h = h a

either_way : (b : Bool) (p q : Opening) {c : Result (Unit {0}) Refusal} → checked_by p ≡ c → checked_by q ≡ c → checked_by (cond b p q) ≡ c
either_way true p q e f = e
either_way false p q e f = f

module _ (v : Walk) where
  pub tips-timed : timed v.settings.sorting ≡ true → (xs : List Id) (st : State) → checked_by (tips_in v xs st) ≡ checked_of (first_fault v.world [] xs)
  unfolding tips_in first_fault fault_or among
  tips-timed t [] st = refl
  tips-timed t (x ∷ xs) st =
      rw t (by_option (v.world.store x) TipNotFound _ _ λ h.
      by_option h.seconds TipUnreadable _ _ λ s.
      either_way (not_before (cutoff_of v.settings.sorting) s) _ _ (tips-timed t xs (waits v st x s)) (tips-timed t xs (sees st x)))

  pub tips-untimed : timed v.settings.sorting ≡ false → (xs : List Id) (st : State) → checked_by (tips_in v xs st) ≡ (Ok tt)
  unfolding tips_in
  tips-untimed t [] st = refl
  tips-untimed t (x ∷ xs) st = rw t (tips-untimed t xs (waits v st x (pos 0)))

module _ (i : Input) where
  pub open-timed : timed i.settings.sorting ≡ true
      → checked_by (open_tips i true) ≡ checked_of (first_fault (world_of (width_in i) i.store i.graph) (list_ids (width_in i) i.excluded) (list_ids (width_in i) i.tips))
  unfolding open_tips walk_of
  open-timed t =
      tips-timed (walk_of i) t (distinct [] (list_ids (width_in i) i.excluded) (list_ids (width_in i) i.tips)) empty_state
      ∙ ap checked_of (distinct_fault (world_of (width_in i) i.store i.graph) (list_ids (width_in i) i.excluded) (list_ids (width_in i) i.tips))

  pub open-untimed : timed i.settings.sorting ≡ false → checked_by (open_tips i true) ≡ (Ok tt)
  unfolding open_tips walk_of
  open-untimed t = tips-untimed (walk_of i) t (distinct [] (list_ids (width_in i) i.excluded) (list_ids (width_in i) i.tips)) empty_state

-- what `check_tips` answers, in a good store
pub tips-right : {r : Result (Unit {0}) Refusal} (i : Input) → ChecksTips (width_in i) i.store i.tips i.excluded i.settings.sorting r → store_is_ok (width_in i) i.store ≡ true → r ≡ checked_by (open_tips i true)
tips-right i k ok =
    by_cases (timed i.settings.sorting)
    (λ t. tests-right (k.by-time t) ok i.graph ∙ sym (open-timed i t))
    (λ t. k.untimed t ∙ sym (open-untimed i t))
