-- The order of slots: its laws.
use mathlib.Core.Path.{◌≡◌, refl, sym, ◌∙◌, subst}
use mathlib.Core.Logic.{◌⊎◌, inl, inr, ⊎_elim}
use mathlib.Core.List.{List}
use mathlib.Core.Bool.{Bool, true, false, not, cond}
use Prim.Native.Nat.{ℕ, ◌+◌, ◌≤◌, ◌<◌}
use native.Mathlib.Nat.{le_of_lt}
use native.Mathlib.Omega.{arith}
use lib.Dec.{T, ltb, ltb→lt, le→leb}
use borrow.Author.Tests.{lt-ltb, le-ltb, ltb-true, ltb-false}
use lib.IntN.{ℤ, pos, negsuc}
use lib.Signed.{lt_z, le_z, lt_z_yes, lt_z_no, <ℤ-≤ℤ_trans, clash_ℤ, ◌<ℤ◌, ◌≤ℤ◌}
use Rattle.revwalk.specs.Order.{at, seconds_of, seq_of, sooner, ahead, goes}
use Rattle.revwalk.specs.Sift.{Total}
use Rattle.revwalk.proofs.QueueSorts.{no_both}

-- ---- the order of seconds
weak : (a b : ℤ) → T (lt_z a b) → T (le_z a b)
weak (pos a) (pos b) t = le→leb a b (le_of_lt (ltb→lt a b t))
weak (pos a) (negsuc b) t = absurd t
weak (negsuc a) (pos b) t = tt
weak (negsuc a) (negsuc b) t = le→leb b a (le_of_lt (ltb→lt b a t))

yes_lt : (a b : ℤ) → lt_z a b ≡ true → a <ℤ b
yes_lt a b e = lt_z_yes (subst T (sym e) tt)

yes_le : (a b : ℤ) → lt_z a b ≡ true → a ≤ℤ b
yes_le a b e = record { le = weak a b (subst T (sym e) tt) }

no_lt : (a b : ℤ) → lt_z a b ≡ false → b ≤ℤ a
no_lt a b e = lt_z_no (subst (λ (t : Bool). T (not t)) (sym e) tt)

as_false : (a b : ℤ) → (a <ℤ b → ⊥) → lt_z a b ≡ false
as_false a b n = go (lt_z a b) refl
  where
    go : (t : Bool) → lt_z a b ≡ t → lt_z a b ≡ false
    go true e = absurd (n (yes_lt a b e))
    go false e = e

as_true : (a b : ℤ) → a <ℤ b → lt_z a b ≡ true
as_true a b h = go (lt_z a b) refl
  where
    go : (t : Bool) → lt_z a b ≡ t → lt_z a b ≡ true
    go true e = e
    go false e = clash_ℤ h (no_lt a b e)

pub lt_z_asym : (a b : ℤ) → lt_z a b ≡ true → lt_z b a ≡ false
lt_z_asym a b e = as_false b a (λ l. clash_ℤ l (yes_le a b e))

-- a before b, and c not before b: a before c
pub lt_z_over : (a b c : ℤ) → lt_z a b ≡ true → lt_z c b ≡ false → lt_z a c ≡ true
lt_z_over a b c p q = as_true a c (<ℤ-≤ℤ_trans (yes_lt a b p) (no_lt c b q))

-- b not before a, and b before c: a before c
pub lt_z_under : (a b c : ℤ) → lt_z b a ≡ false → lt_z b c ≡ true → lt_z a c ≡ true
lt_z_under a b c p q = go (lt_z a c) refl
  where
    go : (t : Bool) → lt_z a c ≡ t → lt_z a c ≡ true
    go true e = e
    go false e = no_both (as_true b a (<ℤ-≤ℤ_trans (yes_lt b c q) (no_lt a c e))) p

sooner_asym : (w : Bool) (a b : ℤ) → sooner w a b ≡ true → sooner w b a ≡ false
sooner_asym true a b e = lt_z_asym b a e
sooner_asym false a b e = lt_z_asym a b e

sooner-over : (w : Bool) (a b c : ℤ) → sooner w a b ≡ true → sooner w c b ≡ false → sooner w a c ≡ true
sooner-over true a b c p q = lt_z_under c b a q p
sooner-over false a b c p q = lt_z_over a b c p q

sooner-under : (w : Bool) (a b c : ℤ) → sooner w b a ≡ false → sooner w b c ≡ true → sooner w a c ≡ true
sooner-under true a b c p q = lt_z_over c b a q p
sooner-under false a b c p q = lt_z_under a b c p q

-- neither before the other, twice
pub sooner-level : (w : Bool) (a b c : ℤ) → sooner w b a ≡ false → sooner w c b ≡ false → sooner w c a ≡ false
sooner-level w a b c p q = go (sooner w c a) refl
  where
    go : (t : Bool) → sooner w c a ≡ t → sooner w c a ≡ false
    go true e = no_both (sooner-over w c a b e p) q
    go false e = e

-- ---- the order of slots
module _ (w : Bool) (times : List ℤ) (line : List ℕ) (cap : ℕ) where
  -- what is told by a before b: by the seconds, or by the numbers
  Told : ℕ → ℕ → Type 0
  Told a b = (ahead w times a b ≡ true) ⊎ ((ahead w times a b ≡ false) × (ahead w times b a ≡ false) × (seq_of line cap a < seq_of line cap b))

  told : (a b : ℕ) → goes w times cap line a b ≡ true → Told a b
  unfolding Told goes
  told a b e = go (ahead w times a b) (ahead w times b a) refl refl e
    where
      go : (s t : Bool) → ahead w times a b ≡ s → ahead w times b a ≡ t → cond s true (cond t false (ltb (seq_of line cap a) (seq_of line cap b))) ≡ true → (ahead w times a b ≡ true) ⊎ ((ahead w times a b ≡ false) × (ahead w times b a ≡ false) × (seq_of line cap a < seq_of line cap b))
      go true t p q e = inl p
      go false true p q e = no_both e refl
      go false false p q e = inr (p, q, ltb-true (seq_of line cap a) (seq_of line cap b) e)

  pub goes-yes : (a b : ℕ) → ahead w times a b ≡ true → goes w times cap line a b ≡ true
  unfolding goes
  goes-yes a b e = rw e

  by-seq : (a b : ℕ) → ahead w times a b ≡ false → ahead w times b a ≡ false → seq_of line cap a < seq_of line cap b → goes w times cap line a b ≡ true
  unfolding goes
  by-seq a b p q l = rw (p, q, lt-ltb (seq_of line cap a) (seq_of line cap b) l)

  pub goes-no : (a b : ℕ) → ahead w times b a ≡ true → goes w times cap line a b ≡ false
  unfolding goes
  goes-no a b e = let p = sooner_asym w (seconds_of times b) (seconds_of times a) e in rw (p, e)

  pub goes-seq : (a b p q : ℕ) → ahead w times a b ≡ false → ahead w times b a ≡ false → p ≡ seq_of line cap a → q ≡ seq_of line cap b → ltb p q ≡ goes w times cap line a b
  unfolding goes
  goes-seq a b p q e f g h = rw (e, f, g, h)

  not-seq : (a b : ℕ) → ahead w times a b ≡ false → ahead w times b a ≡ false → seq_of line cap b ≤ seq_of line cap a → goes w times cap line a b ≡ false
  unfolding goes
  not-seq a b p q l = rw (p, q, le-ltb (seq_of line cap a) (seq_of line cap b) l)

  pub goes-asym : (a b : ℕ) → goes w times cap line a b ≡ true → goes w times cap line b a ≡ false
  unfolding Told
  goes-asym a b e = ⊎_elim (λ p. goes-no b a p) (λ p. not-seq b a p.1 p.0 (le_of_lt p.2)) (told a b e)

  pub goes-trans : (a b c : ℕ) → goes w times cap line a b ≡ true → goes w times cap line b c ≡ true → goes w times cap line a c ≡ true
  unfolding Told
  goes-trans a b c e f =
      ⊎_elim
      (λ p.
      ⊎_elim
      (λ q. goes-yes a c (sooner-over w ta tb tc p (sooner_asym w tb tc q)))
      (λ q. goes-yes a c (sooner-over w ta tb tc p q.1))
      (told b c f))
      (λ p.
      ⊎_elim
      (λ q. goes-yes a c (sooner-under w ta tb tc p.1 q))
      (λ q. by-seq a c (sooner-level w tc tb ta q.0 p.0) (sooner-level w ta tb tc p.1 q.1) (omega (arith, p.2, q.2)))
      (told b c f))
      (told a b e)
    where
      ta : ℤ
      ta = seconds_of times a

      tb : ℤ
      tb = seconds_of times b

      tc : ℤ
      tc = seconds_of times c

  pub goes-turned : (a b : ℕ) → (seq_of line cap a ≡ seq_of line cap b → ⊥) → goes w times cap line a b ≡ false → goes w times cap line b a ≡ true
  unfolding goes
  goes-turned a b d e = go (ahead w times a b) (ahead w times b a) refl refl e
    where
      go : (s t : Bool) → ahead w times a b ≡ s → ahead w times b a ≡ t → cond s true (cond t false (ltb (seq_of line cap a) (seq_of line cap b))) ≡ false → goes w times cap line b a ≡ true
      go true t p q e = no_both refl e
      go false true p q e = goes-yes b a q
      go false false p q e = by-seq b a q p (let l = ltb-false (seq_of line cap a) (seq_of line cap b) e in omega arith)

  -- one that was queued after another goes before it by its seconds alone
  pub goes-late : (a b : ℕ) → seq_of line cap b ≤ seq_of line cap a → goes w times cap line a b ≡ ahead w times a b
  goes-late a b l = go (ahead w times a b) (ahead w times b a) refl refl
    where
      go : (s t : Bool) → ahead w times a b ≡ s → ahead w times b a ≡ t → goes w times cap line a b ≡ ahead w times a b
      go true t p q = goes-yes a b p ∙ sym p
      go false true p q = goes-no a b q ∙ sym p
      go false false p q = not-seq a b p q l ∙ sym p

  pub total : (f : ℕ → ℕ) (n : ℕ) → ((i j : ℕ) → i < n → j < n → seq_of line cap (f i) ≡ seq_of line cap (f j) → i ≡ j) → Total (goes w times cap line) f n
  total f n h = record { turned = λ i j a b d e. goes-turned (f i) (f j) (λ q. d (h i j a b q)) e }

-- the same numbers, the same order
pub goes_same : (w : Bool) (times : List ℤ) (line line' : List ℕ) (cap a b : ℕ) → at line (cap + a) ≡ at line' (cap + a) → at line (cap + b) ≡ at line' (cap + b) → goes w times cap line a b ≡ goes w times cap line' a b
unfolding goes
goes_same w times line line' cap a b p q = rw (p, q)
