-- Laws of painting's bits: a mark with bits has them and what it had, SEEN is as it was, and a mark that painting gave is not 0.
-- Assumes nothing.
use mathlib.Core.Path.{◌≡◌, refl, ◌∙◌, ap}
use mathlib.Core.Logic.{◌⊎◌, inl, inr, ⊎_elim}
use Prim.Native.Nat.{ℕ, ◌%◌, ◌/◌}
use mathlib.Core.Bool.{Bool, true, false, cond, not, ◌&&◌, ◌||◌}
use native.Mathlib.Omega.{arith}
use lib.Dec.{eqb}
use Rattle.hash.proofs.Tests.{or_left, or_right, or_cases}
use Rattle.hashtable.specs.Marks.{visible, hidden, stale, seen, live, with_visible, with_hidden, with_stale}
use Rattle.hashtable.proofs.MarksBits.{visible-with_visible, hidden-with_visible, stale-with_visible, seen-with_visible, visible-with_hidden, hidden-with_hidden, stale-with_hidden, seen-with_hidden, visible-with_stale, hidden-with_stale, stale-with_stale, seen-with_stale, visible-live, hidden-live, stale-live, visible_0, hidden_0, stale_0}
use Rattle.frontier.specs.Bits.{is_painted, add_visible, add_hidden, add_stale, with_bits, passed_bits}

-- what `is_missing` says of two tests
pub told : {r a b x y : Bool} → r ≡ (a && not b) → a ≡ x → b ≡ y → r ≡ (x && not y)
told {b = b} {x = x} e p q = e ∙ ap (λ (t : Bool). t && not b) p ∙ ap (λ (t : Bool). x && not t) q

-- a bit P of a mark that goes over to n where b is true
goes_over : (P : ℕ → Bool) (b : Bool) (m n : ℕ) → P n ≡ true → P (cond b n m) ≡ (b || P m)
goes_over P true m n e = e
goes_over P false m n e = refl

stays : (P : ℕ → Bool) (b : Bool) (m n : ℕ) → P n ≡ P m → P (cond b n m) ≡ P m
stays P true m n e = e
stays P false m n e = refl

-- ---- all of painting's bits

module _ (b m : ℕ) where
  pub visible-withBits : visible (with_bits b m) ≡ (visible b || visible m)
  unfolding with_bits add_visible add_hidden add_stale
  visible-withBits =
      stays visible (stale b) (add_hidden b (add_visible b m)) (with_stale (add_hidden b (add_visible b m))) (visible-with_stale (add_hidden b (add_visible b m)))
      ∙ stays visible (hidden b) (add_visible b m) (with_hidden (add_visible b m)) (visible-with_hidden (add_visible b m))
      ∙ goes_over visible (visible b) m (with_visible m) (visible-with_visible m)

  pub hidden-withBits : hidden (with_bits b m) ≡ (hidden b || hidden m)
  unfolding with_bits add_visible add_hidden add_stale
  hidden-withBits =
      stays hidden (stale b) (add_hidden b (add_visible b m)) (with_stale (add_hidden b (add_visible b m))) (hidden-with_stale (add_hidden b (add_visible b m)))
      ∙ goes_over hidden (hidden b) (add_visible b m) (with_hidden (add_visible b m)) (hidden-with_hidden (add_visible b m))
      ∙ ap (λ (t : Bool). hidden b || t) (stays hidden (visible b) m (with_visible m) (hidden-with_visible m))

  pub stale-withBits : stale (with_bits b m) ≡ (stale b || stale m)
  unfolding with_bits add_visible add_hidden add_stale
  stale-withBits =
      goes_over stale (stale b) (add_hidden b (add_visible b m)) (with_stale (add_hidden b (add_visible b m))) (stale-with_stale (add_hidden b (add_visible b m)))
      ∙ ap (λ (t : Bool). stale b || t)
      (stays stale (hidden b) (add_visible b m) (with_hidden (add_visible b m)) (stale-with_hidden (add_visible b m)) ∙ stays stale (visible b) m (with_visible m) (stale-with_visible m))

  pub seen-withBits : seen (with_bits b m) ≡ seen m
  unfolding with_bits add_visible add_hidden add_stale
  seen-withBits =
      stays seen (stale b) (add_hidden b (add_visible b m)) (with_stale (add_hidden b (add_visible b m))) (seen-with_stale (add_hidden b (add_visible b m)))
      ∙ stays seen (hidden b) (add_visible b m) (with_hidden (add_visible b m)) (seen-with_hidden (add_visible b m))
      ∙ stays seen (visible b) m (with_visible m) (seen-with_visible m)

-- ---- painted marks

pub painted-cases : (m : ℕ) → is_painted m ≡ true → (visible m ≡ true) ⊎ ((hidden m ≡ true) ⊎ (stale m ≡ true))
unfolding is_painted
painted-cases m e = ⊎_elim (λ a. inl a) (λ a. inr (or_cases {a = hidden m} {b = stale m} a)) (or_cases {a = visible m} {b = hidden m || stale m} e)

pub visible-painted : (m : ℕ) → visible m ≡ true → is_painted m ≡ true
unfolding is_painted
visible-painted m e = or_left (visible m) (hidden m || stale m) e

pub hidden-painted : (m : ℕ) → hidden m ≡ true → is_painted m ≡ true
unfolding is_painted
hidden-painted m e = or_right (visible m) (hidden m || stale m) (or_left (hidden m) (stale m) e)

pub stale-painted : (m : ℕ) → stale m ≡ true → is_painted m ≡ true
unfolding is_painted
stale-painted m e = or_right (visible m) (hidden m || stale m) (or_right (hidden m) (stale m) e)

pub painted-live : (m : ℕ) → is_painted m ≡ true → live false m ≡ true
painted-live m e = ⊎_elim (visible-live m) (⊎_elim (hidden-live m) (stale-live m)) (painted-cases m e)

pub painted_0 : is_painted 0 ≡ false
unfolding is_painted
painted_0 = rw (visible_0, hidden_0, stale_0)

-- a mark that got one of painting's bits has one
pub painted-with_bits : (b m : ℕ) → is_painted b ≡ true → is_painted (with_bits b m) ≡ true
painted-with_bits b m e =
    ⊎_elim (λ a. visible-painted (with_bits b m) (visible-withBits b m ∙ or_left (visible b) (visible m) a))
    (⊎_elim (λ a. hidden-painted (with_bits b m) (hidden-withBits b m ∙ or_left (hidden b) (hidden m) a)) (λ a. stale-painted (with_bits b m) (stale-withBits b m ∙ or_left (stale b) (stale m) a)))
    (painted-cases b e)

-- ---- what is passed

low-visible : (m : ℕ) → visible (m % 8) ≡ visible m
unfolding visible
low-visible m = let e : m % 8 % 2 ≡ m % 2 = omega arith in ap (λ (k : ℕ). eqb k 1) e

low-hidden : (m : ℕ) → hidden (m % 8) ≡ hidden m
unfolding hidden
low-hidden m = let e : m % 8 / 2 % 2 ≡ m / 2 % 2 = omega arith in ap (λ (k : ℕ). eqb k 1) e

low-stale : (m : ℕ) → stale (m % 8) ≡ stale m
unfolding stale
low-stale m = let e : m % 8 / 4 % 2 ≡ m / 4 % 2 = omega arith in ap (λ (k : ℕ). eqb k 1) e

module _ (m : ℕ) where
  pub visible-passed : visible (passed_bits m) ≡ visible m
  unfolding passed_bits
  visible-passed = stays visible (visible m && hidden m) (m % 8) (with_stale (m % 8)) (visible-with_stale (m % 8)) ∙ low-visible m

  pub hidden-passed : hidden (passed_bits m) ≡ hidden m
  unfolding passed_bits
  hidden-passed = stays hidden (visible m && hidden m) (m % 8) (with_stale (m % 8)) (hidden-with_stale (m % 8)) ∙ low-hidden m

  turned : (a b : Bool) → (a || b) ≡ (b || a)
  turned true true = refl
  turned true false = refl
  turned false true = refl
  turned false false = refl

  pub stale-passed : stale (passed_bits m) ≡ (stale m || (visible m && hidden m))
  unfolding passed_bits
  stale-passed =
      goes_over stale (visible m && hidden m) (m % 8) (with_stale (m % 8)) (stale-with_stale (m % 8))
      ∙ ap (λ (t : Bool). (visible m && hidden m) || t) (low-stale m)
      ∙ turned (visible m && hidden m) (stale m)

  -- a painted commit passes a mark
  pub painted-passed : is_painted m ≡ true → is_painted (passed_bits m) ≡ true
  painted-passed e =
      ⊎_elim (λ a. visible-painted (passed_bits m) (visible-passed ∙ a))
      (⊎_elim (λ a. hidden-painted (passed_bits m) (hidden-passed ∙ a)) (λ a. stale-painted (passed_bits m) (stale-passed ∙ or_left (stale m) (visible m && hidden m) a)))
      (painted-cases m e)
