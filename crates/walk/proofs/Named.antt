-- Different ids of a list are at most as many as its places, since each takes one. And painting marks tips, hidden tips and parents alone,
-- since a mark goes on to parents only.
-- Assumes nothing.
use mathlib.Core.Path.{◌≡◌, refl, sym, ◌∙◌, ap, subst}
use mathlib.Core.Logic.{◌⊎◌, inl, inr, ⊎_elim}
use Prim.Native.Nat.{ℕ, zero, suc, ◌≤◌}
use mathlib.Core.Bool.{true}
use mathlib.Core.List.Memᴰ
use mathlib.Core.List.{List, [], ◌∷◌}
use native.Mathlib.Omega.{arith}
use lib.ListN.{length}
use Rattle.hash.specs.Bytes.{Id}
use Rattle.walk.specs.Lookup.{World, Read, fail, good, read, Pair}
use Rattle.walk.specs.Painting.{Paint, Painting, stop, going, Marks, then, mark_read, mark, mark_all, lacks, pass, passed, with_pending, turn, turns, fresh, sorted, unpainted, VISIBLE, HIDDEN, paint}
use Rattle.walk.specs.Reach.{Mem, NoDup, more}
use Rattle.hash.proofs.Tests.{by_cases, clash}
use Rattle.walk.proofs.Laws.{also-cases}
use Rattle.walk.proofs.Painting.{kids}
use Rattle.walk.proofs.Painted.{sorted-out}

-- ---- different ids of a list are at most as many as the list has places

without : {x : Id} (u : List Id) → Mem x u → (u' : List Id) × (length u ≡ suc (length u')) × ((y : Id) → Mem y u → (y ≡ x → ⊥) → Mem y u')
without [] m = absurd (Memᴰ.not-nil m)
without {x} (z ∷ u) m = go (λ k. without u k) (Memᴰ.cases_cons m)
  where
    go : (Mem x u → (u' : List Id) × (length u ≡ suc (length u')) × ((y : Id) → Mem y u → (y ≡ x → ⊥) → Mem y u')) → (x ≡ z) ⊎ Mem x u
        → (u' : List Id) × (length (z ∷ u) ≡ suc (length u')) × ((y : Id) → Mem y (z ∷ u) → (y ≡ x → ⊥) → Mem y u')
    go rec (inl e) = (u, refl, (λ y k n. ⊎_elim (λ j. absurd (n (j ∙ sym e))) (λ j. j) (Memᴰ.cases_cons k)))
    go rec (inr k) =
        let r = rec k in
        (z ∷ r.0, ap suc r.1, (λ y j n. ⊎_elim (λ q. Memᴰ.head q) (λ q. Memᴰ.tail (r.2 y q n)) (Memᴰ.cases_cons j)))

pub fits : (l u : List Id) → NoDup l → ((x : Id) → Mem x l → Mem x u) → length l ≤ length u
fits [] u d i = omega arith
fits (x ∷ l) u (more n d) i =
    let r = without u (i x (Memᴰ.head refl)) in
    omega (arith, r.1, fits l r.0 d (λ y k. r.2 y (i y (Memᴰ.tail k)) (λ e. n (subst (λ (z : Id). Mem z l) e k))))

-- ---- marks are given to tips and parents alone

abbrev Within : List Id → Paint → Type 0
Within us st = (x : Id) → (st.vis x ≡ true) ⊎ (st.hid x ≡ true) → Mem x us

marked : (us : List Id) (m : Marks) (x : Id) (st : Paint) (ps : List Id) (p : Pair) (st' : Paint) → Mem x us → Within us st → mark_read m x st (good ps p) ≡ going st' → Within us st'
unfolding mark_read
marked us m x st ps p st' i w e =
    let k = going_in e in
    subst (Within us) k (λ y d. ⊎_elim
    (λ v. ⊎_elim (λ o. w y (inl o)) (λ o. subst (λ (z : Id). Mem z us) (sym o.1) i) (also-cases m.v st.vis x y v))
    (λ v. ⊎_elim (λ o. w y (inr o)) (λ o. subst (λ (z : Id). Mem z us) (sym o.1) i) (also-cases m.h st.hid x y v))
    d)
  where
    going_in : {a b : Paint} → going a ≡ going b → a ≡ b
    going_in e' = cc

module _ (w : World) (us : List Id) where
  mark_on : (m : Marks) (x : Id) (st : Paint) (f : Paint → Painting) (st' : Paint) → Mem x us → Within us st
      → ((st₁ : Paint) → Within us st₁ → f st₁ ≡ going st' → Within us st') → (r : Read) → then (mark_read m x st r) f ≡ going st' → Within us st'
  unfolding then mark_read
  mark_on m x st f st' i g rec (fail n) e = let z : ◌≡◌ {A = ℕ} 0 1 = cc in absurd (omega arith)
  mark_on m x st f st' i g rec (good ps p) e = rec _ (marked us m x st ps p _ i g refl) e

  markAll-within : (m : Marks) (xs : List Id) (st st' : Paint) → ((x : Id) → Mem x xs → Mem x us) → Within us st → mark_all w m xs st ≡ going st' → Within us st'
  unfolding mark_all mark
  markAll-within m [] st st' i g e = let k : st ≡ st' = cc in subst (Within us) k g
  markAll-within m (x ∷ xs) st st' i g e =
      mark_on m x st (λ st₁. mark_all w m xs st₁) st' (i x (Memᴰ.head refl)) g (λ st₁ h f. markAll-within m xs st₁ st' (λ y k. i y (Memᴰ.tail k)) h f) (read w x) e

  pass-within : (m : Marks) (xs : List Id) (st st' : Paint) → ((x : Id) → Mem x xs → Mem x us) → Within us st → pass w m xs st ≡ going st' → Within us st'
  unfolding pass mark
  pass-within m [] st st' i g e = let k : st ≡ st' = cc in subst (Within us) k g
  pass-within m (x ∷ xs) st st' i g e =
      by_cases (lacks m x st)
      (λ h. mark_on m x st (λ st₁. pass w m xs st₁) st' (i x (Memᴰ.head refl)) g (λ st₁ j f. pass-within m xs st₁ st' (λ y k. i y (Memᴰ.tail k)) j f) (read w x) (rw h at e))
      (λ h. pass-within m xs st st' (λ y k. i y (Memᴰ.tail k)) g (rw h at e))

  module _ (within : (x p : Id) → Mem p (kids w x) → Mem p us) where
    turn-within : (st st' : Paint) (q : List (Pair × Id)) → Within us st → turn w st q ≡ going st' → Within us st'
    unfolding turn with_pending
    turn-within st st' [] g e = let k : st ≡ st' = cc in subst (Within us) k g
    turn-within st st' (q ∷ qs) g e = pass-within (passed st q.1) (kids w q.1) (with_pending qs st) st' (within q.1) g e

    turns-within : (k : ℕ) (st st' : Paint) → Within us st → turns w k st ≡ going st' → Within us st'
    unfolding turns then
    turns-within zero st st' g e = let k : st ≡ st' = cc in subst (Within us) k g
    turns-within (suc k) st st' g e =
        by_cases (fresh st.stale st.pending)
        (λ h. go (λ st₁ j f. turns-within k st₁ st' j f) (turn w st st.pending) refl (rw h at e))
        (λ h. let f : going st ≡ going st' = rw h at e in let k : st ≡ st' = cc in subst (Within us) k g)
      where
        go : ((st₁ : Paint) → Within us st₁ → turns w k st₁ ≡ going st' → Within us st') → (r : Painting) → turn w st st.pending ≡ r
            → then r (λ st₁. turns w k st₁) ≡ going st' → Within us st'
        go rec (stop n) d f = let z : ◌≡◌ {A = ℕ} 0 1 = cc in absurd (omega arith)
        go rec (going st₁) d f = rec st₁ (turn-within st st₁ st.pending g d) f

    pub paint-within : (k : ℕ) (waiting hidden : List Id) (st : Paint) → ((x : Id) → Mem x waiting → Mem x us) → ((x : Id) → Mem x hidden → Mem x us)
        → paint w k waiting hidden ≡ going st → Within us st
    unfolding paint then
    paint-within k waiting hidden st i j e = first (mark_all w VISIBLE (sorted waiting) unpainted) refl e
      where
        second : (st₁ : Paint) → Within us st₁ → (r : Painting) → mark_all w HIDDEN hidden st₁ ≡ r → then r (λ st₂. turns w k st₂) ≡ going st → Within us st
        second st₁ g (stop n) d f = let z : ◌≡◌ {A = ℕ} 0 1 = cc in absurd (omega arith)
        second st₁ g (going st₂) d f = turns-within k st₂ st (markAll-within HIDDEN hidden st₁ st₂ j g d) f

        first : (r : Painting) → mark_all w VISIBLE (sorted waiting) unpainted ≡ r → then r (λ st₁. then (mark_all w HIDDEN hidden st₁) (λ st₂. turns w k st₂)) ≡ going st → Within us st
        first (stop n) d f = let z : ◌≡◌ {A = ℕ} 0 1 = cc in absurd (omega arith)
        first (going st₁) d f =
            second st₁ (markAll-within VISIBLE (sorted waiting) unpainted st₁ (λ x m. i x (sorted-out waiting x m)) (λ x m. ⊎_elim (λ v. clash v refl) (λ v. clash v refl) m) d)
            (mark_all w HIDDEN hidden st₁) refl f
