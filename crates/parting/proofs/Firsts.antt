-- Card 11: the order of best common ancestors is a strict total one on ids, so there is one first. Assumes nothing.
use mathlib.Core.Path.{◌≡◌, refl, sym, ◌∙◌, ap, subst}
use mathlib.Core.Logic.{◌⊎◌, inl, inr, ⊎_elim}
use mathlib.Core.Bool.{true, false}
use native.Mathlib.Omega.{arith}
use lib.IntN.{ℤ, pos, negsuc}
use lib.Signed.{lt_z}
use borrow.Author.Tests.{ltb-false}
use Rattle.hash.specs.Bytes.{Id, lt_id}
use Rattle.hash.proofs.Tests.{by_cases, clash}
use Rattle.hash.proofs.Ids.{eq_id-not, lt_id_trans, lt_id_asym, lt_id-total}
use Rattle.walk.specs.Lookup.{World, seconds_for}
use Rattle.walk.proofs.Laws.{lt_z_trans, lt_z_asym}
use Rattle.reach.proofs.Growth.{same_id?}
use Rattle.parting.specs.First.{goes_first, First}

lt_z_same : (a b : ℤ) → lt_z a b ≡ false → lt_z b a ≡ false → a ≡ b
lt_z_same (pos a) (pos b) p q = ap pos (omega (arith, ltb-false a b p, ltb-false b a q))
lt_z_same (pos a) (negsuc b) p q = clash refl q
lt_z_same (negsuc a) (pos b) p q = clash refl p
lt_z_same (negsuc a) (negsuc b) p q = ap negsuc (omega (arith, ltb-false b a p, ltb-false a b q))

lt_z_irrefl : (a : ℤ) → lt_z a a ≡ true → ⊥
lt_z_irrefl a p = clash p (lt_z_asym a a p)

-- what it is to go first
unfoldable Ahead : World → Id → Id → Type 0
Ahead w x y = (lt_z (seconds_for w y) (seconds_for w x) ≡ true) ⊎ ((seconds_for w x ≡ seconds_for w y) × (lt_id x y ≡ true))

ahead_of : (w : World) (x y : Id) → goes_first w x y ≡ true → Ahead w x y
unfolding goes_first Ahead
ahead_of w x y e =
    by_cases (lt_z (seconds_for w y) (seconds_for w x)) (λ h. inl h) λ h.
    by_cases (lt_z (seconds_for w x) (seconds_for w y)) (λ k. clash (rw (h, k) at e) refl) (λ k. inr (lt_z_same (seconds_for w x) (seconds_for w y) k h, rw (h, k) at e))

of_ahead : (w : World) (x y : Id) → Ahead w x y → goes_first w x y ≡ true
unfolding goes_first Ahead
of_ahead w x y (inl h) = rw h
of_ahead w x y (inr h) =
    by_cases (lt_z (seconds_for w y) (seconds_for w x)) (λ k. rw k) λ k.
    by_cases (lt_z (seconds_for w x) (seconds_for w y)) (λ j. absurd (lt_z_irrefl (seconds_for w y) (subst (λ (s : ℤ). lt_z s (seconds_for w y) ≡ true) h.0 j))) (λ j. rw (k, j) h.1)

pub first_trans : (w : World) (x y z : Id) → goes_first w x y ≡ true → goes_first w y z ≡ true → goes_first w x z ≡ true
unfolding Ahead
first_trans w x y z p q = of_ahead w x z (go (ahead_of w x y p) (ahead_of w y z q))
  where
    go : Ahead w x y → Ahead w y z → Ahead w x z
    go (inl h) (inl k) = inl (lt_z_trans (seconds_for w z) (seconds_for w y) (seconds_for w x) k h)
    go (inl h) (inr k) = inl (subst (λ (s : ℤ). lt_z s (seconds_for w x) ≡ true) k.0 h)
    go (inr h) (inl k) = inl (subst (λ (s : ℤ). lt_z (seconds_for w z) s ≡ true) (sym h.0) k)
    go (inr h) (inr k) = inr (h.0 ∙ k.0, lt_id_trans x y z h.1 k.1)

first_asym : (w : World) (x y : Id) → goes_first w x y ≡ true → goes_first w y x ≡ true → ⊥
unfolding Ahead
first_asym w x y p q = go (ahead_of w x y p) (ahead_of w y x q)
  where
    go : Ahead w x y → Ahead w y x → ⊥
    go (inl h) (inl k) = clash k (lt_z_asym (seconds_for w y) (seconds_for w x) h)
    go (inl h) (inr k) = lt_z_irrefl (seconds_for w x) (subst (λ (s : ℤ). lt_z s (seconds_for w x) ≡ true) k.0 h)
    go (inr h) (inl k) = lt_z_irrefl (seconds_for w y) (subst (λ (s : ℤ). lt_z s (seconds_for w y) ≡ true) h.0 k)
    go (inr h) (inr k) = clash k.1 (lt_id_asym x y h.1)

pub first-total : (w : World) (x y : Id) → (x ≡ y → ⊥) → goes_first w x y ≡ false → goes_first w y x ≡ true
unfolding Ahead
first-total w x y n e = of_ahead w y x (
    by_cases (lt_z (seconds_for w x) (seconds_for w y)) (λ h. inl h) λ h.
    by_cases (lt_z (seconds_for w y) (seconds_for w x)) (λ k. clash (of_ahead w x y (inl k)) e) λ k.
    let s : seconds_for w x ≡ seconds_for w y = lt_z_same (seconds_for w x) (seconds_for w y) h k in
    by_cases (lt_id x y) (λ j. clash (of_ahead w x y (inr (s, j))) e) (λ j. inr (sym s, lt_id-total x y j (eq_id-not x y n))))

-- by which of the three tests
module _ (w : World) (x y : Id) where
  pub by-seconds : lt_z (seconds_for w y) (seconds_for w x) ≡ true → goes_first w x y ≡ true
  unfolding goes_first
  by-seconds h = rw h

  pub by-later : lt_z (seconds_for w y) (seconds_for w x) ≡ false → lt_z (seconds_for w x) (seconds_for w y) ≡ true → goes_first w x y ≡ false
  unfolding goes_first
  by-later h k = rw (h, k)

  pub by-id : lt_z (seconds_for w y) (seconds_for w x) ≡ false → lt_z (seconds_for w x) (seconds_for w y) ≡ false → goes_first w x y ≡ lt_id x y
  unfolding goes_first
  by-id h k = rw (h, k)

-- there is one first
pub first-once : {w : World} {a b x y : Id} → First w a b x → First w a b y → x ≡ y
first-once {w} {x = x} {y = y} p q = ⊎_elim (λ e. e)
    (λ n. absurd (first_asym w x y (p.first y q.best (λ e. n (sym e))) (q.first x p.best n)))
    (same_id? x y)
