-- Two runs merged into one list: which slot comes first in it, its length and members, and that a slot put into the younger run is put
-- into the merged list. That needs no sorted runs, only an order in which of two slots at most one goes before the other and "not
-- before" is transitive. Assumes nothing.
use mathlib.Core.Path.{◌≡◌, refl, sym, ap, ◌∙◌}
use mathlib.Core.Logic.{◌⊎◌, inl, inr, ⊎_elim}
use mathlib.Core.List.{List, [], ◌∷◌, ◌++◌}
use mathlib.Core.Bool.{Bool, true, false, cond, ◌||◌}
use Prim.Native.Nat.{ℕ, suc, ◌+◌}
use native.Mathlib.Omega.{arith}
use lib.ListN.{length}
use Rattle.hash.proofs.Tests.{clash}
use Rattle.revwalk.specs.Order.{insert_by, In}
use Rattle.pending.specs.Pending.{merge_from, merge_by, fresh}

-- ---- which slot comes first

module _ (lt : ℕ → ℕ → Bool) where
  pub merge_none : (xs : List ℕ) → merge_by lt xs [] ≡ xs
  unfolding merge_by
  merge_none xs = refl

  pub merge-alone : (ys : List ℕ) → merge_by lt [] ys ≡ ys
  unfolding merge_by merge_from
  merge-alone [] = refl
  merge-alone (y ∷ ys) = ap (λ (l : List ℕ). y ∷ l) (merge-alone ys)

  module _ (x y : ℕ) (xs ys : List ℕ) where
    pub merge-older : lt y x ≡ false → merge_by lt (x ∷ xs) (y ∷ ys) ≡ x ∷ merge_by lt xs (y ∷ ys)
    unfolding merge_by merge_from
    merge-older e = rw e

    pub merge-younger : lt y x ≡ true → merge_by lt (x ∷ xs) (y ∷ ys) ≡ y ∷ merge_by lt (x ∷ xs) ys
    unfolding merge_by merge_from
    merge-younger e = rw e

-- ---- length and members

module _ (lt : ℕ → ℕ → Bool) where
  length_from : (y : ℕ) (k : List ℕ → List ℕ) (n : ℕ) → ((l : List ℕ) → length (k l) ≡ n + length l) → (xs : List ℕ) → length (merge_from lt y k xs) ≡ suc n + length xs
  unfolding merge_from
  length_from y k n h [] = omega (arith, h [])
  length_from y k n h (x ∷ xs) = go (lt y x) (length_from y k n h xs)
    where
      go : (t : Bool) → length (merge_from lt y k xs) ≡ suc n + length xs → length (cond t (y ∷ k (x ∷ xs)) (x ∷ merge_from lt y k xs)) ≡ suc n + length (x ∷ xs)
      go true r = omega (arith, h (x ∷ xs))
      go false r = omega arith

  pub length-merge : (xs ys : List ℕ) → length (merge_by lt xs ys) ≡ length ys + length xs
  unfolding merge_by
  length-merge xs [] = omega arith
  length-merge xs (y ∷ ys) = length_from y (λ rest. merge_by lt rest ys) (length ys) (λ l. length-merge l ys) xs

  module _ (z : ℕ) where
    in-from : (y : ℕ) (k : List ℕ → List ℕ) (B : Type 0) → ((l : List ℕ) → In z (k l) → B ⊎ In z l) → (xs : List ℕ) → In z (merge_from lt y k xs) → ((z ≡ y) ⊎ B) ⊎ In z xs
    unfolding merge_from In
    in-from y k B h [] m = ⊎_elim (λ e. inl (inl e)) (λ i. ⊎_elim (λ b. inl (inr b)) (λ j. inr j) (h [] i)) m
    in-from y k B h (x ∷ xs) m = go (lt y x) (in-from y k B h xs) m
      where
        go : (t : Bool) → (In z (merge_from lt y k xs) → ((z ≡ y) ⊎ B) ⊎ In z xs) → In z (cond t (y ∷ k (x ∷ xs)) (x ∷ merge_from lt y k xs)) → ((z ≡ y) ⊎ B) ⊎ In z (x ∷ xs)
        go true r m = ⊎_elim (λ e. inl (inl e)) (λ i. ⊎_elim (λ b. inl (inr b)) (λ j. inr j) (h (x ∷ xs) i)) m
        go false r m = ⊎_elim (λ e. inr (inl e)) (λ i. ⊎_elim (λ b. inl b) (λ j. inr (inr j)) (r i)) m

    pub in-merge : (xs ys : List ℕ) → In z (merge_by lt xs ys) → In z ys ⊎ In z xs
    unfolding merge_by In
    in-merge xs [] m = inr m
    in-merge xs (y ∷ ys) m = in-from y (λ rest. merge_by lt rest ys) (In z ys) (λ l. in-merge l ys) xs m

    from_in : (y : ℕ) (k : List ℕ → List ℕ) (B : Type 0) → ((l : List ℕ) → B ⊎ In z l → In z (k l)) → (xs : List ℕ) → ((z ≡ y) ⊎ B) ⊎ In z xs → In z (merge_from lt y k xs)
    unfolding merge_from In
    from_in y k B h [] m = ⊎_elim (⊎_elim (λ e. inl e) (λ b. inr (h [] (inl b)))) (λ i. absurd i) m
    from_in y k B h (x ∷ xs) m = go (lt y x) (from_in y k B h xs) m
      where
        go : (t : Bool) → (((z ≡ y) ⊎ B) ⊎ In z xs → In z (merge_from lt y k xs)) → ((z ≡ y) ⊎ B) ⊎ In z (x ∷ xs) → In z (cond t (y ∷ k (x ∷ xs)) (x ∷ merge_from lt y k xs))
        go true r m = ⊎_elim (⊎_elim (λ e. inl e) (λ b. inr (h (x ∷ xs) (inl b)))) (λ i. inr (h (x ∷ xs) (inr i))) m
        go false r m = ⊎_elim (λ e. inr (r (inl e))) (⊎_elim (λ e. inl e) (λ i. inr (r (inr i)))) m

    pub merge_in : (xs ys : List ℕ) → In z ys ⊎ In z xs → In z (merge_by lt xs ys)
    unfolding merge_by In
    merge_in xs [] m = ⊎_elim (λ i. absurd i) (λ i. i) m
    merge_in xs (y ∷ ys) m = from_in y (λ rest. merge_by lt rest ys) (In z ys) (λ l. merge_in l ys) xs m

-- ---- two orders that agree on the members

module _ (lt lt' : ℕ → ℕ → Bool) where
  agree-from : (P : ℕ → Type 0) (y : ℕ) (k k' : List ℕ → List ℕ) → ((x : ℕ) → P x → lt y x ≡ lt' y x)
      → ((l : List ℕ) → ((x : ℕ) → In x l → P x) → k l ≡ k' l) → (xs : List ℕ) → ((x : ℕ) → In x xs → P x) → merge_from lt y k xs ≡ merge_from lt' y k' xs
  unfolding merge_from In
  agree-from P y k k' same h [] all = ap (λ (l : List ℕ). y ∷ l) (h [] all)
  agree-from P y k k' same h (x ∷ xs) all =
      let e = same x (all x (inl refl)) in
      let p = h (x ∷ xs) all in
      let q = agree-from P y k k' same h xs (λ z i. all z (inr i)) in
      cc

  pub merge-agree : (xs ys : List ℕ) → ((x : ℕ) → In x xs → (y : ℕ) → In y ys → lt y x ≡ lt' y x) → merge_by lt xs ys ≡ merge_by lt' xs ys
  unfolding merge_by In
  merge-agree xs [] same = refl
  merge-agree xs (y ∷ ys) same =
      agree-from (λ x. (z : ℕ) → In z (y ∷ ys) → lt z x ≡ lt' z x) y (λ rest. merge_by lt rest ys) (λ rest. merge_by lt' rest ys) (λ x p. p y (inl refl))
      (λ l all. merge-agree l ys (λ x i z j. all x i z (inr j))) xs same

-- ---- a slot that lacks a mark

module _ (done : ℕ → Bool) where
  fresh-append : (ys xs : List ℕ) → fresh done (ys ++ xs) ≡ (fresh done ys || fresh done xs)
  unfolding fresh
  fresh-append [] xs = refl
  fresh-append (y ∷ ys) xs = go (done y) (fresh-append ys xs)
    where
      go : (t : Bool) → fresh done (ys ++ xs) ≡ (fresh done ys || fresh done xs) → cond t (fresh done (ys ++ xs)) true ≡ (cond t (fresh done ys) true || fresh done xs)
      go true r = r
      go false r = refl

  module _ (ys xs : List ℕ) (r : Bool) (p : r ≡ fresh done ys) where
    pub fresh-left : r ≡ true → true ≡ fresh done (ys ++ xs)
    fresh-left e = rw (fresh-append ys xs, sym p, e)

    pub fresh-right : (t : Bool) → t ≡ fresh done xs → r ≡ false → t ≡ fresh done (ys ++ xs)
    fresh-right t q e = rw (fresh-append ys xs, sym p, e) q

  module _ (lt : ℕ → ℕ → Bool) where
    fresh-from : (y : ℕ) (k : List ℕ → List ℕ) (b : Bool) → ((l : List ℕ) → fresh done (k l) ≡ (b || fresh done l)) → (xs : List ℕ)
        → fresh done (merge_from lt y k xs) ≡ (cond (done y) b true || fresh done xs)
    unfolding merge_from fresh
    fresh-from y k b h [] = go (done y)
      where
        go : (t : Bool) → cond t (fresh done (k [])) true ≡ (cond t b true || false)
        go true = h []
        go false = refl
    fresh-from y k b h (x ∷ xs) = go (lt y x) (done y) (done x) refl refl (fresh-from y k b h xs)
      where
        late : (t : Bool) → true ≡ (t || true)
        late true = refl
        late false = refl

        go : (s t u : Bool) → done y ≡ t → done x ≡ u → fresh done (merge_from lt y k xs) ≡ (cond (done y) b true || fresh done xs)
            → fresh done (cond s (y ∷ k (x ∷ xs)) (x ∷ merge_from lt y k xs)) ≡ (cond (done y) b true || cond (done x) (fresh done xs) true)
        go true true u p q r = rw p (h (x ∷ xs))
        go true false u p q r = rw p
        go false t true p q r = rw q r
        go false t false p q r = rw q (late (cond (done y) b true))

    merge-fresh : (xs ys : List ℕ) → fresh done (merge_by lt xs ys) ≡ (fresh done ys || fresh done xs)
    unfolding merge_by fresh
    merge-fresh xs [] = refl
    merge-fresh xs (y ∷ ys) = fresh-from y (λ rest. merge_by lt rest ys) (fresh done ys) (λ l. merge-fresh l ys) xs

    pub fresh-merge : (xs ys : List ℕ) → fresh done (merge_by lt xs ys) ≡ fresh done (ys ++ xs)
    fresh-merge xs ys = merge-fresh xs ys ∙ sym (fresh-append ys xs)

-- ---- a slot that is put into the younger run

module _ (lt : ℕ → ℕ → Bool) (asym : (a b : ℕ) → lt a b ≡ true → lt b a ≡ false) (level : (a b c : ℕ) → lt b a ≡ false → lt c b ≡ false → lt c a ≡ false) where
  put_alone : (x : ℕ) (xs : List ℕ) → merge_by lt xs (x ∷ []) ≡ insert_by lt x xs
  unfolding merge_by merge_from insert_by
  put_alone x [] = refl
  put_alone x (a ∷ bs) = ap (λ (l : List ℕ). cond (lt x a) (x ∷ a ∷ bs) (a ∷ l)) (put_alone x bs)

  module _ (x y : ℕ) (ys : List ℕ) (k : (xs : List ℕ) → merge_by lt xs (insert_by lt x ys) ≡ insert_by lt x (merge_by lt xs ys)) where
    put-before : lt x y ≡ true → (xs : List ℕ) → merge_by lt xs (x ∷ y ∷ ys) ≡ insert_by lt x (merge_by lt xs (y ∷ ys))
    unfolding merge_by merge_from insert_by
    put-before e [] = rw e
    put-before e (a ∷ bs) = go (lt x a) (lt y a) refl refl (put-before e bs)
      where
        go : (s t : Bool) → lt x a ≡ s → lt y a ≡ t → merge_by lt bs (x ∷ y ∷ ys) ≡ insert_by lt x (merge_by lt bs (y ∷ ys))
            → merge_by lt (a ∷ bs) (x ∷ y ∷ ys) ≡ insert_by lt x (merge_by lt (a ∷ bs) (y ∷ ys))
        go true true p q r = simp (p, q, e)
        go true false p q r = simp (p, q)
        go false true p q r = clash e (level y a x (asym y a q) p)
        go false false p q r = simp (p, q) (ap (λ (l : List ℕ). a ∷ l) r)

    put-behind : lt x y ≡ false → (xs : List ℕ) → merge_by lt xs (y ∷ insert_by lt x ys) ≡ insert_by lt x (merge_by lt xs (y ∷ ys))
    unfolding merge_by merge_from insert_by
    put-behind e [] = rw e (ap (λ (l : List ℕ). y ∷ l) (k []))
    put-behind e (a ∷ bs) = go (lt y a) refl (put-behind e bs)
      where
        go : (t : Bool) → lt y a ≡ t → merge_by lt bs (y ∷ insert_by lt x ys) ≡ insert_by lt x (merge_by lt bs (y ∷ ys))
            → merge_by lt (a ∷ bs) (y ∷ insert_by lt x ys) ≡ insert_by lt x (merge_by lt (a ∷ bs) (y ∷ ys))
        go true q r = simp (q, e) (ap (λ (l : List ℕ). y ∷ l) (k (a ∷ bs)))
        go false q r = let p = level a y x q e in simp (q, p) (ap (λ (l : List ℕ). a ∷ l) r)

  pub merge-insert : (x : ℕ) (xs ys : List ℕ) → merge_by lt xs (insert_by lt x ys) ≡ insert_by lt x (merge_by lt xs ys)
  unfolding merge_by insert_by
  merge-insert x xs [] = put_alone x xs
  merge-insert x xs (y ∷ ys) = go (lt x y) refl (λ l. merge-insert x l ys)
    where
      go : (t : Bool) → lt x y ≡ t → ((l : List ℕ) → merge_by lt l (insert_by lt x ys) ≡ insert_by lt x (merge_by lt l ys))
          → merge_by lt xs (insert_by lt x (y ∷ ys)) ≡ insert_by lt x (merge_by lt xs (y ∷ ys))
      go true e k = rw e (put-before x y ys k e xs)
      go false e k = rw e (put-behind x y ys k e xs)
