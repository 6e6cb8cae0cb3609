-- Room for painting's queue: each state that painting comes to has at most three times as many queued as there are slots for the two
-- lists and the parents, and that is room enough for every part of every turn. Assumes nothing.
use mathlib.Core.Path.{◌≡◌, refl, sym, ◌∙◌, ap, subst}
use Prim.Native.Nat.{ℕ, zero, suc, ◌*◌, ◌≤◌}
use mathlib.Core.Bool.{true}
use mathlib.Core.List.{List, [], ◌∷◌}
use native.Mathlib.Omega.{arith}
use lib.ListN.{length, take, drop, length-take}
use Rattle.hash.specs.Bytes.{Id}
use Rattle.hash.proofs.Tests.{by_cases}
use Rattle.walk.specs.Lookup.{World, read, parents_of}
use Rattle.walk.specs.Painting.{Paint, Painting, going, then, Marks, VISIBLE, HIDDEN, mark, mark_all, lacks, pass, passed, with_pending, fresh, turns, unpainted, sorted, paint}
use Rattle.walk.proofs.Comes.{Comes, passing, takes, skips, gives}
use Rattle.walk.proofs.Loop.{then-going, paint-comes, loop-bound}
use Rattle.walk.proofs.Fuel.{mark_all_length, length_sorted}
use Rattle.frontier.specs.Turns.{TurnFits}
use Rattle.frontier.specs.Painted.{Ample}
use Rattle.frontier.proofs.Steps.{then-both, then_is}

going_in : {a b : Paint} → going a ≡ going b → a ≡ b
going_in e = cc

take_short : (xs : List Id) (i : ℕ) → length (take i xs) ≤ length xs
take_short xs i = omega (arith, length-take i xs)

-- painting with i turns, of a state that both lists have come to
pub paint-is : (w : World) (i : ℕ) (waiting hidden : List Id) {st : Paint}
    → then (mark_all w VISIBLE (sorted waiting) unpainted) (λ s. mark_all w HIDDEN hidden s) ≡ going st → paint w i waiting hidden ≡ turns w i st
unfolding paint
paint-is w i waiting hidden {st} e =
    then-both (mark_all w VISIBLE (sorted waiting) unpainted) (λ s. then (mark_all w HIDDEN hidden s) (λ s'. turns w i s')) (λ s. mark_all w HIDDEN hidden s) (λ s'. turns w i s') (λ s. refl)
    ∙ ap (λ (a : Painting). then a (λ s'. turns w i s')) e
    ∙ then_is (λ s'. turns w i s') st

-- the lists come first, then the turns
pub paint-parts : (w : World) (i : ℕ) (waiting hidden : List Id)
    → then (then (mark_all w VISIBLE (sorted waiting) unpainted) (λ s. mark_all w HIDDEN hidden s)) (λ s'. turns w i s') ≡ paint w i waiting hidden
unfolding paint
paint-parts w i waiting hidden =
    sym
    (then-both (mark_all w VISIBLE (sorted waiting) unpainted) (λ s. then (mark_all w HIDDEN hidden s) (λ s'. turns w i s')) (λ s. mark_all w HIDDEN hidden s) (λ s'. turns w i s') (λ s. refl))

module _ (w : World) (waiting hidden : List Id) where
  -- a part of the parents has been looked at
  some-passed : (n : ℕ) (m : Marks) (xs : List Id) (j : ℕ) (st st' : Paint) → Comes w waiting hidden n (passing m xs) st → pass w m (take j xs) st ≡ going st'
      → Comes w waiting hidden n (passing m (drop j xs)) st'
  unfolding pass
  some-passed n m xs zero st st' c e = subst (Comes w waiting hidden n (passing m xs)) (going_in e) c
  some-passed n m [] (suc j) st st' c e = subst (Comes w waiting hidden n (passing m [])) (going_in e) c
  some-passed n m (x ∷ xs) (suc j) st st' c e =
      by_cases (lacks m x st)
      (λ h. let t = then-going (mark w m x st) _ st' (rw h at e) in some-passed n m xs j t.0 st' (gives c h t.1) t.2)
      (λ h. some-passed n m xs j st st' (skips c h) (rw h at e))

module _ {w : World} {cap : ℕ} {u waiting hidden : List Id} (a : Ample w cap u waiting hidden) where
  -- the turns
  pub turns-room : {st : Paint} → then (mark_all w VISIBLE (sorted waiting) unpainted) (λ s. mark_all w HIDDEN hidden s) ≡ going st
      → (i : ℕ) (st' : Paint) → turns w i st ≡ going st' → fresh st'.stale st'.pending ≡ true → TurnFits w (3 * cap) st'
  turns-room e i st' d fr q qs z j st'' k =
      let t = paint-comes w waiting hidden i st' (paint-is w i waiting hidden e ∙ d) in
      let c = some-passed w waiting hidden (suc t.0) (passed st' q.1) (parents_of (read w q.1)) j (with_pending qs st') st'' (takes t.1 fr z) k in
      omega (arith, loop-bound w waiting hidden a.parents a.each-parent (passing (passed st' q.1) (drop j (parents_of (read w q.1)))) c, a.short)

  -- the two lists
  pub shown-room : (i : ℕ) (m : Marks) (st : Paint) → mark_all w m (take i (sorted waiting)) unpainted ≡ going st → length st.pending ≤ length waiting
  shown-room i m st e =
      omega (arith, mark_all_length w m (take i (sorted waiting)) unpainted st e, take_short (sorted waiting) i, length_sorted waiting)

  pub hidden-room : (m : Marks) {st₁ : Paint} → mark_all w m (sorted waiting) unpainted ≡ going st₁ → (i : ℕ) (m' : Marks) (st : Paint) → mark_all w m' (take i hidden) st₁ ≡ going st
      → length st.pending ≤ cap
  hidden-room m {st₁} f i m' st e =
      omega (arith, mark_all_length w m (sorted waiting) unpainted st₁ f, mark_all_length w m' (take i hidden) st₁ st e, take_short hidden i, length_sorted waiting, a.short)
