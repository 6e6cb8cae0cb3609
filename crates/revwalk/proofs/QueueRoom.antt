-- Different numbers below c: there are at most c of them, so where one is missing there is room for it; and how they grow and shrink by one.
use mathlib.Core.Path.{◌≡◌, sym, ap, ◌∙◌, subst}
use mathlib.Core.Logic.{◌⊎◌, inl, inr, ⊎_elim}
use mathlib.Core.Bool.{cond}
use Prim.Native.Nat.{ℕ, zero, suc, ◌+◌, ◌-◌, ◌≤◌, ◌<◌}
use native.Mathlib.Omega.{arith}
use lib.Dec.{ltb}
use borrow.Author.Tests.{lt-ltb, le-ltb}
use Rattle.revwalk.specs.Queue.{Slots}
use Rattle.revwalk.proofs.QueueSorts.{same?, Place}
use Rattle.revwalk.proofs.QueueSifts.{σ, σ_first, σ_twice, σ_low}

pub seek : (f : ℕ → ℕ) (c n : ℕ) → Place f n c ⊎ ((k : ℕ) → k < n → f k ≡ c → ⊥)
seek f c zero = inr (λ k h e. omega arith)
seek f c (suc n) =
    ⊎_elim
    (λ e. inl (record { k = n; low = omega arith; is = e }))
    (λ d.
    ⊎_elim
    (λ p. inl (record { k = p.k; low = omega arith; is = p.is }))
    (λ none. inr (λ k h e. ⊎_elim (λ q. d (ap f (sym q) ∙ e)) (λ q. none k (below k q h) e) (same? k n)))
    (seek f c n))
    (same? (f n) c)
  where
    below : (k : ℕ) → (k ≡ n → ⊥) → k < suc n → k < n
    below k q h = omega arith

pub pigeon : (c n : ℕ) (f : ℕ → ℕ) → ((k : ℕ) → k < n → f k < c) → ((i j : ℕ) → i < n → j < n → f i ≡ f j → i ≡ j) → n ≤ c
pigeon zero zero f h inj = omega arith
pigeon zero (suc n) f h inj = absurd (let z = h 0 (omega arith) in omega arith)
pigeon (suc c) zero f h inj = omega arith
pigeon (suc c) (suc m) f h inj =
    ⊎_elim
    (λ p. with p (pigeon c m (g p) (low p) (one p)))
    (λ none. let z = pigeon c (suc m) f (less none) inj in omega arith)
    (seek f c (suc m))
  where
    less : ((k : ℕ) → k < suc m → f k ≡ c → ⊥) → (k : ℕ) → k < suc m → f k < c
    less none k hk =
        let a = h k hk in
        let b = none k hk in
        omega arith

    with : Place f (suc m) c → m ≤ c → suc m ≤ suc c
    with p z = omega arith

    g : Place f (suc m) c → ℕ → ℕ
    g p j = f (σ p.k m j)

    in-σ : (p : Place f (suc m) c) (j : ℕ) → j < m → σ p.k m j < suc m
    in-σ p j hj = σ_low p.k m (suc m) p.low (omega arith) j (omega arith)

    low : (p : Place f (suc m) c) (j : ℕ) → j < m → g p j < c
    low p j hj =
        let a = h (σ p.k m j) (in-σ p j hj) in
        let b : f (σ p.k m j) ≡ c → ⊥ = λ e.
        let q : σ p.k m j ≡ p.k = inj (σ p.k m j) p.k (in-σ p j hj) p.low (e ∙ sym p.is) in
        let w : j ≡ m = sym (σ_twice p.k m j) ∙ ap (σ p.k m) q ∙ σ_first p.k m in
        omega arith in
        omega arith

    one : (p : Place f (suc m) c) (i j : ℕ) → i < m → j < m → g p i ≡ g p j → i ≡ j
    one p i j hi hj e =
        let q = inj (σ p.k m i) (σ p.k m j) (in-σ p i hi) (in-σ p j hj) e in
        sym (σ_twice p.k m i) ∙ ap (σ p.k m) q ∙ σ_twice p.k m j

-- ---- slots with one more, and with one less
module _ (f g : ℕ → ℕ) {cap n slot : ℕ} (s : Slots f cap n) (hs : slot < cap) (fresh : (k : ℕ) → k < n → f k ≡ slot → ⊥) where
  -- each of g is the new slot or one of f, and at most one is the new slot
  grown : (j : ℕ) (to : ℕ → ℕ) → ((k : ℕ) → k < n + 1 → (k ≡ j → ⊥) → to k < n) → ((k l : ℕ) → k < n + 1 → l < n + 1 → (k ≡ j → ⊥) → (l ≡ j → ⊥) → to k ≡ to l → k ≡ l) → ((k : ℕ) → k < n + 1 → (k ≡ j → ⊥) → g k ≡ f (to k)) → g j ≡ slot → Slots g cap (n + 1)
  grown j to low one old new =
      record {
        low = λ k h.
            ⊎_elim
            (λ e. subst (λ (x : ℕ). x < cap) (sym (ap g e ∙ new)) hs)
            (λ d. subst (λ (x : ℕ). x < cap) (sym (old k h d)) (s.low (to k) (low k h d)))
            (same? k j);
        apart = λ k l hk hl e.
            ⊎_elim
            (λ p.
            ⊎_elim
            (λ r. p ∙ sym r)
            (λ r. absurd (fresh (to l) (low l hl r) (sym (old l hl r) ∙ sym e ∙ ap g p ∙ new)))
            (same? l j))
            (λ p.
            ⊎_elim
            (λ r. absurd (fresh (to k) (low k hk p) (sym (old k hk p) ∙ e ∙ ap g r ∙ new)))
            (λ r. one k l hk hl p r (s.apart (to k) (to l) (low k hk p) (low l hl r) (sym (old k hk p) ∙ e ∙ old l hl r)))
            (same? l j))
            (same? k j);
      }

  pub slots_end : ((k : ℕ) → k < n → g k ≡ f k) → g n ≡ slot → Slots g cap (n + 1)
  slots_end old new = grown n (λ k. k) less (λ k l hk hl p r e. e) (λ k h d. old k (less k h d)) new
    where
      less : (k : ℕ) → k < n + 1 → (k ≡ n → ⊥) → k < n
      less k h d = omega arith

  pub slots-front : ((k : ℕ) → k < n → g (suc k) ≡ f k) → g 0 ≡ slot → Slots g cap (n + 1)
  slots-front old new = grown 0 (λ k. k - 1) less one (λ k h d. ap g (back k d) ∙ old (k - 1) (less k h d)) new
    where
      less : (k : ℕ) → k < n + 1 → (k ≡ 0 → ⊥) → k - 1 < n
      less k h d = omega arith

      back : (k : ℕ) → (k ≡ 0 → ⊥) → k ≡ suc (k - 1)
      back k d = omega arith

      one : (k l : ℕ) → k < n + 1 → l < n + 1 → (k ≡ 0 → ⊥) → (l ≡ 0 → ⊥) → k - 1 ≡ l - 1 → k ≡ l
      one k l hk hl p r e = omega arith

pub slots_tail : (f g : ℕ → ℕ) {cap n : ℕ} (m : ℕ) → Slots f cap n → n ≡ suc m → ((k : ℕ) → k < m → g k ≡ f (suc k)) → Slots g cap m
slots_tail f g {cap} m s n old =
    record {
      low = λ k h. subst (λ (x : ℕ). x < cap) (sym (old k h)) (s.low (suc k) (omega arith));
      apart = λ i j hi hj e. let p = s.apart (suc i) (suc j) (omega arith) (omega arith) (sym (old i hi) ∙ e ∙ old j hj) in omega arith;
    }

-- where a slot is missing there is room for it
pub room-left : (f : ℕ → ℕ) {cap n slot : ℕ} → Slots f cap n → slot < cap → ((k : ℕ) → k < n → f k ≡ slot → ⊥) → n < cap
room-left f {cap} {n} {slot} s hs fresh =
    let more : Slots g cap (n + 1) = slots_end f g s hs fresh (λ k h. rw (lt-ltb k n h)) (rw (le-ltb n n (omega arith))) in
    omega (arith, pigeon cap (n + 1) g more.low more.apart)
  where
    g : ℕ → ℕ
    g k = cond (ltb k n) (f k) slot
