-- How a slot moves up and how a hole moves down, over any order and contents.
use mathlib.Core.Path.{◌≡◌, refl, sym, ap, ◌∙◌, subst}
use mathlib.Core.Logic.{⊎_elim}
use mathlib.Core.Bool.{Bool, true, cond}
use Prim.Native.Nat.{ℕ, zero, suc, ◌+◌, ◌/◌, ◌≤◌, ◌<◌}
use native.Mathlib.Omega.{arith}
use lib.Dec.{eqb}
use borrow.Author.Tests.{eq-eqb, ne_eqb}
use Rattle.revwalk.specs.Sift.{par, Shuffled, Heaped, Up, Down}
use Rattle.revwalk.proofs.QueueSorts.{same?}

-- g is f with what stands at i and at p exchanged
pub record Swapped (f g : ℕ → ℕ) (i p : ℕ) : Type 0 where
  pub first : g i ≡ f p
  pub second : g p ≡ f i
  pub others : (k : ℕ) → (k ≡ i → ⊥) → (k ≡ p → ⊥) → g k ≡ f k

pub σ : ℕ → ℕ → ℕ → ℕ
σ i p k = cond (eqb k i) p (cond (eqb k p) i k)

pub σ_first : (i p : ℕ) → σ i p i ≡ p
unfolding σ
σ_first i p = rw (eq-eqb i i refl)

pub σ_second : (i p : ℕ) → σ i p p ≡ i
unfolding σ
σ_second i p = ⊎_elim (λ e. rw (eq-eqb p i e) e) (λ d. rw (ne_eqb p i d, eq-eqb p p refl)) (same? p i)

pub σ_other : (i p k : ℕ) → (k ≡ i → ⊥) → (k ≡ p → ⊥) → σ i p k ≡ k
unfolding σ
σ_other i p k d e = rw (ne_eqb k i d, ne_eqb k p e)

-- by cases: k is i, or p, or another
pub thirds : {X : Type 0} (i p k : ℕ) → (k ≡ i → X) → (k ≡ p → X) → ((k ≡ i → ⊥) → (k ≡ p → ⊥) → X) → X
thirds i p k a b c = ⊎_elim a (λ d. ⊎_elim b (λ e. c d e) (same? k p)) (same? k i)

pub σ_twice : (i p k : ℕ) → σ i p (σ i p k) ≡ k
σ_twice i p k =
    thirds i p k
    (λ e. ap (λ (x : ℕ). σ i p (σ i p x)) e ∙ ap (σ i p) (σ_first i p) ∙ σ_second i p ∙ sym e)
    (λ e. ap (λ (x : ℕ). σ i p (σ i p x)) e ∙ ap (σ i p) (σ_second i p) ∙ σ_first i p ∙ sym e)
    (λ d e. ap (σ i p) (σ_other i p k d e) ∙ σ_other i p k d e)

pub σ_low : (i p n : ℕ) → i < n → p < n → (k : ℕ) → k < n → σ i p k < n
σ_low i p n hi hp k h =
    thirds i p k
    (λ e. subst (λ (x : ℕ). x < n) (sym (ap (σ i p) e ∙ σ_first i p)) hp)
    (λ e. subst (λ (x : ℕ). x < n) (sym (ap (σ i p) e ∙ σ_second i p)) hi)
    (λ d e. subst (λ (x : ℕ). x < n) (sym (σ_other i p k d e)) h)

pub mix_swap : {f g : ℕ → ℕ} (n i p : ℕ) → i < n → p < n → Swapped f g i p → Shuffled f g n
mix_swap {f} {g} n i p hi hp s =
    record {
      to = σ i p;
      back = σ i p;
      to_low = σ_low i p n hi hp;
      back_low = σ_low i p n hi hp;
      to_back = λ k h. σ_twice i p k;
      back_to = λ k h. σ_twice i p k;
      is = λ k h.
          thirds i p k
          (λ e. ap g e ∙ s.first ∙ sym (ap f (ap (σ i p) e ∙ σ_first i p)))
          (λ e. ap g e ∙ s.second ∙ sym (ap f (ap (σ i p) e ∙ σ_second i p)))
          (λ d e. s.others k d e ∙ sym (ap f (σ_other i p k d e)));
    }

par-low : (i n : ℕ) → i < n → par i < n
par-low i n h = omega arith

module _ (lt : ℕ → ℕ → Bool) (trans : (a b c : ℕ) → lt a b ≡ true → lt b c ≡ true → lt a c ≡ true) where
  by : {a a' b b' : ℕ} → a ≡ a' → b ≡ b' → lt a' b' ≡ true → lt a b ≡ true
  by p q h = cc

  -- ---- up
  module _ (f g : ℕ → ℕ) (n i : ℕ) (u : Up lt f n i) (hi : 0 < i) (hn : i < n) (s : Swapped f g i (par i)) (t : lt (f i) (f (par i)) ≡ true) where
    up-edges : (k : ℕ) → 0 < k → k < n → (k ≡ par i → ⊥) → lt (g (par k)) (g k) ≡ true
    up-edges k k0 kn kp =
        ⊎_elim
        (λ e. by (ap (λ (x : ℕ). g (par x)) e ∙ s.second) (ap g e ∙ s.first) t)
        (λ d.
        let same = s.others k d kp in
        ⊎_elim
        (λ e. by (ap g e ∙ s.first) same (u.over k k0 kn e hi))
        (λ c.
        ⊎_elim
        (λ e. by (ap g e ∙ s.second) same (trans (f i) (f (par i)) (f k) t (by (ap f (sym e)) refl (u.edges k k0 kn d))))
        (λ b. by (s.others (par k) c b) same (u.edges k k0 kn d))
        (same? (par k) (par i)))
        (same? (par k) i))
        (same? k i)

    up-over : (k : ℕ) → 0 < k → k < n → par k ≡ par i → 0 < par i → lt (g (par (par i))) (g k) ≡ true
    up-over k k0 kn e hp =
        let above : par (par i) ≡ i → ⊥ = λ q. omega arith in
        let above2 : par (par i) ≡ par i → ⊥ = λ q. omega arith in
        let self : par i ≡ i → ⊥ = λ q. omega arith in
        let under : k ≡ par i → ⊥ = λ q. omega arith in
        let top = s.others (par (par i)) above above2 in
        let edge = u.edges (par i) hp (par-low i n hn) self in
        ⊎_elim
        (λ q. by top (ap g q ∙ s.first) edge)
        (λ d. by top (s.others k d under) (trans (f (par (par i))) (f (par i)) (f k) edge (by (ap f (sym e)) refl (u.edges k k0 kn d))))
        (same? k i)

    pub up_step : Up lt g n (par i)
    up_step = record { edges = up-edges; over = up-over }

  pub up_top : (f : ℕ → ℕ) (n i : ℕ) → i ≤ 0 → Up lt f n i → Heaped lt f n
  up_top f n i z u = record { edges = λ k k0 kn. u.edges k k0 kn (λ e. omega arith) }

  pub up-stop : (f : ℕ → ℕ) (n i : ℕ) → Up lt f n i → lt (f (par i)) (f i) ≡ true → Heaped lt f n
  up-stop f n i u t =
      record { edges = λ k k0 kn. ⊎_elim (λ e. by (ap (λ (x : ℕ). f (par x)) e) (ap f e) t) (u.edges k k0 kn) (same? k i) }

  -- ---- down
  module _ (f g : ℕ → ℕ) (n i c : ℕ) (u : Down lt f n i) (hc : 0 < c) (hn : c < n) (pc : par c ≡ i) (s : Swapped f g i c) (t : (k : ℕ) → 0 < k → k < n → par k ≡ i → (k ≡ c → ⊥) → lt (f c) (f k) ≡ true) where
    down-edges : (k : ℕ) → 0 < k → k < n → (k ≡ c → ⊥) → (par k ≡ c → ⊥) → lt (g (par k)) (g k) ≡ true
    down-edges k k0 kn kc kp =
        ⊎_elim
        (λ e.
        let self : par i ≡ i → ⊥ = λ q. omega arith in
        let far : par i ≡ c → ⊥ = λ q. omega arith in
        by (ap (λ (x : ℕ). g (par x)) e ∙ s.others (par i) self far) (ap g e ∙ s.first) (u.over c hc hn pc (omega arith)))
        (λ d.
        ⊎_elim
        (λ e. by (ap g e ∙ s.first) (s.others k d kc) (t k k0 kn e kc))
        (λ e. by (s.others (par k) e kp) (s.others k d kc) (u.edges k k0 kn d e))
        (same? (par k) i))
        (same? k i)

    down-over : (k : ℕ) → 0 < k → k < n → par k ≡ c → 0 < c → lt (g (par c)) (g k) ≡ true
    down-over k k0 kn e h =
        let d : k ≡ i → ⊥ = λ q. omega arith in
        let dc : k ≡ c → ⊥ = λ q. omega arith in
        let dp : par k ≡ i → ⊥ = λ q. omega arith in
        by (ap g pc ∙ s.first) (s.others k d dc) (by (ap f (sym e)) refl (u.edges k k0 kn d dp))

    pub down_step : Down lt g n c
    down_step = record { edges = down-edges; over = down-over }

  pub down-leaf : (f : ℕ → ℕ) (n i : ℕ) → n / 2 ≤ i → Down lt f n i → Up lt f n i
  down-leaf f n i h u =
      record {
        edges = λ k k0 kn d. u.edges k k0 kn d (λ e. omega arith);
        over = λ k k0 kn e i0. absurd (omega arith);
      }

  -- ---- the root goes first
  root-fuel : (f : ℕ → ℕ) (n : ℕ) → Heaped lt f n → (m k : ℕ) → k ≤ m → 0 < k → k < n → lt (f 0) (f k) ≡ true
  root-fuel f n h zero k a k0 kn = absurd (omega arith)
  root-fuel f n h (suc m) k a k0 kn =
      ⊎_elim
      (λ e. by (ap f (sym e)) refl (h.edges k k0 kn))
      (λ d. trans (f 0) (f (par k)) (f k) (root-fuel f n h m (par k) (omega arith) (omega (arith, pos d)) (omega arith)) (h.edges k k0 kn))
      (same? (par k) 0)
    where
      pos : (par k ≡ 0 → ⊥) → 0 < par k
      pos d = omega arith

  pub root-first : (f : ℕ → ℕ) (n : ℕ) → Heaped lt f n → (k : ℕ) → 0 < k → k < n → lt (f 0) (f k) ≡ true
  root-first f n h k k0 kn = root-fuel f n h k k (omega arith) k0 kn

  -- ---- from a heap to a heap with one more at its end, or with another at its root
  pub up-begin : (f g : ℕ → ℕ) (n : ℕ) → ((k : ℕ) → k < n → g k ≡ f k) → Heaped lt f n → Up lt g (n + 1) n
  up-begin f g n e h =
      record {
        edges = λ k k0 kn d.
            let less : k < n = omega arith in
            by (e (par k) (omega arith)) (e k less) (h.edges k k0 less);
        over = λ k k0 kn q i0. absurd (omega arith);
      }

  pub down-begin : (f g : ℕ → ℕ) (n m : ℕ) → m ≤ n → ((k : ℕ) → 0 < k → k < m → g k ≡ f k) → Heaped lt f n → Down lt g m 0
  down-begin f g n m l e h =
      record {
        edges = λ k k0 km d dp. by (e (par k) (omega arith) (omega arith)) (e k k0 km) (h.edges k k0 (omega arith));
        over = λ k k0 kn q i0. absurd (omega arith);
      }
