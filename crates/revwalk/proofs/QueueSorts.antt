-- Lists that rise by an order, and what sorting is told by: the members alone.
use mathlib.Core.Path.{◌≡◌, refl, sym, ap, ◌∙◌, subst}
use mathlib.Core.Logic.{◌⊎◌, inl, inr, ⊎_elim}
use mathlib.Core.List.Permᴰ
use mathlib.Core.List.{List, [], ◌∷◌, ◌++◌, Permᴰ}
use mathlib.Core.Bool.{Bool, true, false, cond}
use Prim.Native.Nat.{ℕ, zero, suc, ◌<◌}
use native.Mathlib.Omega.{arith}
use lib.ListN.{length}
use lib.Dec.{T, eqb}
use borrow.Author.Tests.{eqb-true, eqb-false}
use Rattle.revwalk.specs.Order.{never, insert_by, sort_at, listed, In, Once}
use Rattle.revwalk.specs.Sift.{Shuffled, Total}

-- equal or not
pub same? : (a b : ℕ) → (a ≡ b) ⊎ (a ≡ b → ⊥)
same? a b = go (eqb a b) refl
  where
    go : (t : Bool) → eqb a b ≡ t → (a ≡ b) ⊎ (a ≡ b → ⊥)
    go true e = inl (eqb-true a b e)
    go false e = inr (eqb-false a b e)

pub no_both : {X : Type 0} {b : Bool} → b ≡ true → b ≡ false → X
no_both p q = absurd (subst T (sym p ∙ q) tt)

-- a place of [0, n) where f has z
pub record Place (f : ℕ → ℕ) (n z : ℕ) : Type 0 where
  pub k : ℕ
  pub low : k < n
  pub is : f k ≡ z

-- each goes before all that follow it
unfoldable pub Rises : (ℕ → ℕ → Bool) → List ℕ → Type 0
Rises lt [] = Unit {0}
Rises lt (y ∷ ys) = ((z : ℕ) → In z ys → lt y z ≡ true) × Rises lt ys

-- ---- the members of what is put in
pub in_insert : (lt : ℕ → ℕ → Bool) (x z : ℕ) (ys : List ℕ) → In z (insert_by lt x ys) → (z ≡ x) ⊎ In z ys
unfolding In insert_by
in_insert lt x z [] h = h
in_insert lt x z (y ∷ ys) h = go (lt x y) (in_insert lt x z ys) h
  where
    go : (t : Bool) → (In z (insert_by lt x ys) → (z ≡ x) ⊎ In z ys) → In z (cond t (x ∷ y ∷ ys) (y ∷ insert_by lt x ys)) → (z ≡ x) ⊎ ((z ≡ y) ⊎ In z ys)
    go true r h = h
    go false r h = ⊎_elim (λ e. inr (inl e)) (λ m. ⊎_elim (λ e. inl e) (λ n. inr (inr n)) (r m)) h

pub insert_in : (lt : ℕ → ℕ → Bool) (x z : ℕ) (ys : List ℕ) → (z ≡ x) ⊎ In z ys → In z (insert_by lt x ys)
unfolding In insert_by
insert_in lt x z [] h = h
insert_in lt x z (y ∷ ys) h = go (lt x y) (insert_in lt x z ys) h
  where
    go : (t : Bool) → ((z ≡ x) ⊎ In z ys → In z (insert_by lt x ys)) → (z ≡ x) ⊎ ((z ≡ y) ⊎ In z ys) → In z (cond t (x ∷ y ∷ ys) (y ∷ insert_by lt x ys))
    go true r h = h
    go false r h = ⊎_elim (λ e. inr (r (inl e))) (⊎_elim (λ e. inl e) (λ n. inr (r (inr n)))) h

pub in_sort : (lt : ℕ → ℕ → Bool) (f : ℕ → ℕ) (n z : ℕ) → In z (sort_at lt f n) → Place f n z
unfolding In sort_at
in_sort lt f zero z h = absurd h
in_sort lt f (suc n) z h =
    ⊎_elim
    (λ e. record { k = n; low = omega arith; is = sym e })
    (λ m. let p = in_sort lt f n z m in record { k = p.k; low = omega arith; is = p.is })
    (in_insert lt (f n) z (sort_at lt f n) h)

pub sort_in : (lt : ℕ → ℕ → Bool) (f : ℕ → ℕ) (n z k : ℕ) → k < n → f k ≡ z → In z (sort_at lt f n)
unfolding In sort_at
sort_in lt f zero z k h e = absurd (omega arith)
sort_in lt f (suc n) z k h e =
    insert_in lt (f n) z (sort_at lt f n)
    (⊎_elim
    (λ q. inl (sym e ∙ ap f q))
    (λ q. inr (sort_in lt f n z k (omega (arith, less q)) e))
    (same? k n))
  where
    less : (k ≡ n → ⊥) → k < n
    less q = omega arith

pub length_insert : (lt : ℕ → ℕ → Bool) (x : ℕ) (l : List ℕ) → length (insert_by lt x l) ≡ suc (length l)
unfolding insert_by
length_insert lt x [] = refl
length_insert lt x (y ∷ ys) = go (lt x y) (length_insert lt x ys)
  where
    go : (t : Bool) → length (insert_by lt x ys) ≡ suc (length ys) → length (cond t (x ∷ y ∷ ys) (y ∷ insert_by lt x ys)) ≡ suc (suc (length ys))
    go true e = refl
    go false e = ap suc e

pub length_sort : (lt : ℕ → ℕ → Bool) (f : ℕ → ℕ) (n : ℕ) → length (sort_at lt f n) ≡ n
unfolding sort_at
length_sort lt f zero = refl
length_sort lt f (suc n) = length_insert lt (f n) (sort_at lt f n) ∙ ap suc (length_sort lt f n)

-- ---- different ones stay different, and the list is a rearrangement of what was put in
once_insert : (lt : ℕ → ℕ → Bool) (x : ℕ) (ys : List ℕ) → (In x ys → ⊥) → Once ys → Once (insert_by lt x ys)
unfolding Once In insert_by
once_insert lt x [] d o = (d, o)
once_insert lt x (y ∷ ys) d o = go (lt x y) (once_insert lt x ys (λ h. d (inr h)) o.1)
  where
    go : (t : Bool) → Once (insert_by lt x ys) → Once (cond t (x ∷ y ∷ ys) (y ∷ insert_by lt x ys))
    go true r = (d, o)
    go false r = ((λ h. ⊎_elim (λ e. d (inl (sym e))) o.0 (in_insert lt x y ys h)), r)

pub once_sort : (lt : ℕ → ℕ → Bool) (f : ℕ → ℕ) (n : ℕ) → ((i j : ℕ) → i < n → j < n → f i ≡ f j → i ≡ j) → Once (sort_at lt f n)
unfolding Once sort_at
once_sort lt f zero apart = tt
once_sort lt f (suc n) apart =
    once_insert lt (f n) (sort_at lt f n)
    (λ h. let p = in_sort lt f n (f n) h in let e = apart p.k n (omega arith) (omega arith) p.is in absurd (omega arith))
    (once_sort lt f n (λ i j hi hj. apart i j (omega arith) (omega arith)))

perm_insert : (lt : ℕ → ℕ → Bool) (x : ℕ) (ys : List ℕ) → Permᴰ (x ∷ ys) (insert_by lt x ys)
unfolding insert_by
perm_insert lt x [] = Permᴰ.refl (x ∷ [])
perm_insert lt x (y ∷ ys) = go (lt x y) (perm_insert lt x ys)
  where
    go : (t : Bool) → Permᴰ (x ∷ ys) (insert_by lt x ys) → Permᴰ (x ∷ y ∷ ys) (cond t (x ∷ y ∷ ys) (y ∷ insert_by lt x ys))
    go true r = Permᴰ.refl (x ∷ y ∷ ys)
    go false r = Permᴰ.trans (Permᴰ.swap refl refl) (Permᴰ.cons refl r)

pub perm_sort : (lt : ℕ → ℕ → Bool) (f : ℕ → ℕ) (n : ℕ) → Permᴰ (listed f n) (sort_at lt f n)
unfolding listed sort_at
perm_sort lt f zero = Permᴰ.nil
perm_sort lt f (suc n) =
    Permᴰ.trans (Permᴰ.middle (f n) (listed f n) [])
    (Permᴰ.trans (Permᴰ.cons refl (Permᴰ.append-nil (listed f n)))
    (Permᴰ.trans (Permᴰ.cons refl (perm_sort lt f n)) (perm_insert lt (f n) (sort_at lt f n))))

-- where nothing goes before anything, what is put in stands at the end
pub insert_never : (x : ℕ) (ys : List ℕ) → insert_by never x ys ≡ ys ++ (x ∷ [])
unfolding insert_by
insert_never x [] = refl
insert_never x (y ∷ ys) = ap (λ (l : List ℕ). y ∷ l) (insert_never x ys)

-- ---- the order decides the list
module _ (lt : ℕ → ℕ → Bool) (asym : (a b : ℕ) → lt a b ≡ true → lt b a ≡ false) where
  heads : (a b : ℕ) (l m : List ℕ) → Rises lt (a ∷ l) → Rises lt (b ∷ m) → In a (b ∷ m) → In b (a ∷ l) → a ≡ b
  unfolding Rises In
  heads a b l m r s p q = ⊎_elim (λ e. e) (λ h. ⊎_elim (λ e. sym e) (λ k. no_both (s.0 a h) (asym a b (r.0 b k))) q) p

  less-self : (a : ℕ) → lt a a ≡ true → ⊥
  less-self a h = no_both h (asym a a h)

  tail-in : (a : ℕ) (l m : List ℕ) → Rises lt (a ∷ l) → ((z : ℕ) → In z (a ∷ l) → In z (a ∷ m)) → (z : ℕ) → In z l → In z m
  unfolding Rises In
  tail-in a l m r h z i =
      ⊎_elim (λ e. absurd (less-self a (subst (λ (y : ℕ). lt a y ≡ true) e (r.0 z i)))) (λ k. k) (h z (inr i))

  pub same-list : (l m : List ℕ) → Rises lt l → Rises lt m → ((z : ℕ) → In z l → In z m) → ((z : ℕ) → In z m → In z l) → l ≡ m
  unfolding Rises In
  same-list [] [] r s h k = refl
  same-list [] (b ∷ m) r s h k = absurd (k b (inl refl))
  same-list (a ∷ l) [] r s h k = absurd (h a (inl refl))
  same-list (a ∷ l) (b ∷ m) r s h k =
      let e = heads a b l m r s (h a (inl refl)) (k b (inl refl)) in
      let s' : Rises lt (a ∷ m) = subst (λ (y : ℕ). Rises lt (y ∷ m)) (sym e) s in
      let h' : (z : ℕ) → In z (a ∷ l) → In z (a ∷ m) = subst (λ (y : ℕ). (z : ℕ) → In z (a ∷ l) → In z (y ∷ m)) (sym e) h in
      let k' : (z : ℕ) → In z (a ∷ m) → In z (a ∷ l) = subst (λ (y : ℕ). (z : ℕ) → In z (y ∷ m) → In z (a ∷ l)) (sym e) k in
      let t = same-list l m r.1 s.1 (tail-in a l m r h') (tail-in a m l s' k') in
      cc

-- ---- sorting
module _ (lt : ℕ → ℕ → Bool) (trans : (a b c : ℕ) → lt a b ≡ true → lt b c ≡ true → lt a c ≡ true) where
  rises-insert : (x : ℕ) (ys : List ℕ) → ((y : ℕ) → In y ys → lt x y ≡ false → lt y x ≡ true) → Rises lt ys → Rises lt (insert_by lt x ys)
  unfolding Rises In insert_by
  rises-insert x [] t r = ((λ z h. absurd h), tt)
  rises-insert x (y ∷ ys) t r = go (lt x y) refl (rises-insert x ys (λ z h. t z (inr h)) r.1)
    where
      go : (b : Bool) → lt x y ≡ b → Rises lt (insert_by lt x ys) → Rises lt (cond b (x ∷ y ∷ ys) (y ∷ insert_by lt x ys))
      go true e q = ((λ z h. ⊎_elim (λ p. subst (λ (w : ℕ). lt x w ≡ true) (sym p) e) (λ i. trans x y z e (r.0 z i)) h), r)
      go false e q = ((λ z h. ⊎_elim (λ p. subst (λ (w : ℕ). lt y w ≡ true) (sym p) (t y (inl refl) e)) (λ i. r.0 z i) (in_insert lt x z ys h)), q)

  pub rises-sort : (f : ℕ → ℕ) (n : ℕ) → Total lt f n → Rises lt (sort_at lt f n)
  unfolding Rises sort_at
  rises-sort f zero t = tt
  rises-sort f (suc n) t =
      rises-insert (f n) (sort_at lt f n)
      (λ y h e.
      let p = in_sort lt f n y h in
      let far : n ≡ p.k → ⊥ = λ q. omega arith in
      let e' : lt (f n) (f p.k) ≡ false = subst (λ (w : ℕ). lt (f n) w ≡ false) (sym p.is) e in
      subst (λ (w : ℕ). lt w (f n) ≡ true) p.is (t.turned n p.k (omega arith) (omega arith) far e'))
      (rises-sort f n (record { turned = λ i j a b. t.turned i j (omega arith) (omega arith) }))

-- x goes first: it is put in front
pub insert_first : (lt : ℕ → ℕ → Bool) (x : ℕ) (ys : List ℕ) → ((z : ℕ) → In z ys → lt x z ≡ true) → insert_by lt x ys ≡ x ∷ ys
unfolding In insert_by
insert_first lt x [] h = refl
insert_first lt x (y ∷ ys) h = let e = h y (inl refl) in rw e

-- two orders that agree on the members
pub insert_agree : (lt lt' : ℕ → ℕ → Bool) (x : ℕ) (ys : List ℕ) → ((z : ℕ) → In z ys → lt x z ≡ lt' x z) → insert_by lt x ys ≡ insert_by lt' x ys
unfolding In insert_by
insert_agree lt lt' x [] h = refl
insert_agree lt lt' x (y ∷ ys) h =
    let e = h y (inl refl) in
    let r = insert_agree lt lt' x ys (λ z i. h z (inr i)) in
    cc

pub sort_agree : (lt lt' : ℕ → ℕ → Bool) (f g : ℕ → ℕ) (n : ℕ) → ((k : ℕ) → k < n → f k ≡ g k) → ((i j : ℕ) → i < n → j < n → lt (f i) (f j) ≡ lt' (f i) (f j)) → sort_at lt f n ≡ sort_at lt' g n
unfolding sort_at
sort_agree lt lt' f g zero h e = refl
sort_agree lt lt' f g (suc n) h e =
    let r = sort_agree lt lt' f g n (λ k l. h k (omega arith)) (λ i j a b. e i j (omega arith) (omega arith)) in
    let p = h n (omega arith) in
    let q : insert_by lt (f n) (sort_at lt f n) ≡ insert_by lt' (f n) (sort_at lt f n) = insert_agree lt lt' (f n) (sort_at lt f n) (λ z i. let w = in_sort lt f n z i in subst (λ (v : ℕ). lt (f n) v ≡ lt' (f n) v) w.is (e n w.k (omega arith) (omega arith))) in
    cc

-- ---- what a shuffle keeps
pub mix_none : (f : ℕ → ℕ) (n : ℕ) → Shuffled f f n
mix_none f n =
    record {
      to = λ k. k;
      back = λ k. k;
      to_low = λ k h. h;
      back_low = λ k h. h;
      to_back = λ k h. refl;
      back_to = λ k h. refl;
      is = λ k h. refl;
    }

pub mix_trans : {f g h : ℕ → ℕ} {n : ℕ} → Shuffled f g n → Shuffled g h n → Shuffled f h n
mix_trans {f} {g} {h} {n} a b =
    record {
      to = λ k. a.to (b.to k);
      back = λ k. b.back (a.back k);
      to_low = λ k l. a.to_low (b.to k) (b.to_low k l);
      back_low = λ k l. b.back_low (a.back k) (a.back_low k l);
      to_back = λ k l. ap a.to (b.to_back (a.back k) (a.back_low k l)) ∙ a.to_back k l;
      back_to = λ k l. ap b.back (a.back_to (b.to k) (b.to_low k l)) ∙ b.back_to k l;
      is = λ k l. b.is k l ∙ a.is (b.to k) (b.to_low k l);
    }

pub mix_apart : {f g : ℕ → ℕ} {n : ℕ} (q : ℕ → ℕ) → Shuffled f g n → ((i j : ℕ) → i < n → j < n → q (f i) ≡ q (f j) → i ≡ j) → (i j : ℕ) → i < n → j < n → q (g i) ≡ q (g j) → i ≡ j
mix_apart q m h i j a b e =
    let p : m.to i ≡ m.to j = h (m.to i) (m.to j) (m.to_low i a) (m.to_low j b) (sym (ap q (m.is i a)) ∙ e ∙ ap q (m.is j b)) in
    sym (m.back_to i a) ∙ ap m.back p ∙ m.back_to j b

pub mix_total : {lt : ℕ → ℕ → Bool} {f g : ℕ → ℕ} {n : ℕ} → Shuffled f g n → Total lt f n → Total lt g n
mix_total {lt} {f} {g} {n} m t = record { turned = turned }
  where
    turned : (i j : ℕ) → i < n → j < n → (i ≡ j → ⊥) → lt (g i) (g j) ≡ false → lt (g j) (g i) ≡ true
    turned i j a b d e =
        let p = m.is i a in
        let q = m.is j b in
        let far : m.to i ≡ m.to j → ⊥ = λ s. d (sym (m.back_to i a) ∙ ap m.back s ∙ m.back_to j b) in
        let e' : lt (f (m.to i)) (f (m.to j)) ≡ false = cc in
        let r = t.turned (m.to i) (m.to j) (m.to_low i a) (m.to_low j b) far e' in
        cc

pub mix_place : {f g : ℕ → ℕ} {n z : ℕ} → Shuffled f g n → Place f n z → Place g n z
mix_place {f} m p = record { k = m.back p.k; low = m.back_low p.k p.low; is = m.is (m.back p.k) (m.back_low p.k p.low) ∙ ap f (m.to_back p.k p.low) ∙ p.is }

pub mix_back : {f g : ℕ → ℕ} {n z : ℕ} → Shuffled f g n → Place g n z → Place f n z
mix_back m p = record { k = m.to p.k; low = m.to_low p.k p.low; is = sym (m.is p.k p.low) ∙ p.is }

-- a shuffle keeps the sorted list
pub sort_mixed : (lt : ℕ → ℕ → Bool) (f g : ℕ → ℕ) (n : ℕ) → ((a b : ℕ) → lt a b ≡ true → lt b a ≡ false) → ((a b c : ℕ) → lt a b ≡ true → lt b c ≡ true → lt a c ≡ true) → Total lt f n → Shuffled f g n → sort_at lt f n ≡ sort_at lt g n
sort_mixed lt f g n asym trans t m =
    same-list lt asym (sort_at lt f n) (sort_at lt g n) (rises-sort lt trans f n t) (rises-sort lt trans g n (mix_total m t))
    (λ z h. let p = mix_place m (in_sort lt f n z h) in sort_in lt g n z p.k p.low p.is)
    (λ z h. let p = mix_back m (in_sort lt g n z h) in sort_in lt f n z p.k p.low p.is)
