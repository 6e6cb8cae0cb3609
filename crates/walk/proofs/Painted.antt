-- Painting as a whole, from the waiting ids and the hidden tips. At first all that is marked is queued, so the loop's invariant holds; each
-- turn makes the weight less, so the turns suffice; and when the loop has ended, the frontier parts what a hidden tip reaches from the rest.
-- Assumes nothing.
use mathlib.Core.Path.{◌≡◌, refl, sym, ◌∙◌}
use mathlib.Core.Logic.{◌⊎◌, inl, inr, ⊎_elim}
use Prim.Native.Nat.{ℕ, zero, suc, ◌+◌, ◌*◌, ◌≤◌, ◌<◌}
use mathlib.Core.Bool.{true, false, ◌&&◌}
use mathlib.Core.List.Memᴰ
use mathlib.Core.List.{List, [], ◌∷◌, Memᴰ}
use native.Mathlib.Omega.{arith}
use lib.ListN.{length}
use Rattle.hash.specs.Bytes.{Id, lt_id}
use Rattle.walk.specs.Lookup.{World, Pair, lt_pair}
use Rattle.walk.specs.Painting.{Paint, Painting, going, Marks, then, fresh, turn, turns, paint, unpainted, VISIBLE, HIDDEN, sorted, insert_id}
use Rattle.walk.specs.Reach.{Mem}
use Rattle.hash.proofs.Tests.{by_cases, clash, not_yes, and_of}
use Rattle.walk.proofs.Laws.{Sorted}
use Rattle.walk.proofs.Painting.{kids, pair, Good, InQ, Grew, Inv, Kept, Down, markAll-went, turn-stays, kept_refl, kept_trans, met, seen-down, front-hidden}
use Rattle.walk.proofs.Fuel.{fresh-none, weight, turn_weight, total_bound, mark_all_length, length_sorted}

-- ---- the sorted ids are the same ids

insert_in : (x : Id) (l : List Id) (y : Id) → (y ≡ x) ⊎ Mem y l → Mem y (insert_id x l)
unfolding insert_id
insert_in x [] y m = ⊎_elim (λ e. Memᴰ.head e) (λ k. absurd (Memᴰ.not-nil k)) m
insert_in x (z ∷ zs) y m =
    by_cases (lt_id z x)
    (λ h. rw h (⊎_elim (λ e. Memᴰ.tail (insert_in x zs y (inl e)))
    (λ k. ⊎_elim (λ e. Memᴰ.head e) (λ r. Memᴰ.tail (insert_in x zs y (inr r))) (Memᴰ.cases_cons k)) m))
    (λ h. rw h (⊎_elim (λ e. Memᴰ.head e) (λ k. Memᴰ.tail k) m))

insert_out : (x : Id) (l : List Id) (y : Id) → Mem y (insert_id x l) → (y ≡ x) ⊎ Mem y l
unfolding insert_id
insert_out x [] y m = Memᴰ.cases_cons m
insert_out x (z ∷ zs) y m =
    by_cases (lt_id z x)
    (λ h. ⊎_elim (λ e. inr (Memᴰ.head e)) (λ k. ⊎_elim inl (λ r. inr (Memᴰ.tail r)) (insert_out x zs y k)) (Memᴰ.cases_cons (rw h at m)))
    (λ h. Memᴰ.cases_cons (rw h at m))

pub sorted_in : (l : List Id) (y : Id) → Mem y l → Mem y (sorted l)
unfolding sorted
sorted_in [] y m = m
sorted_in (x ∷ xs) y m = insert_in x (sorted xs) y (⊎_elim inl (λ k. inr (sorted_in xs y k)) (Memᴰ.cases_cons m))

pub sorted-out : (l : List Id) (y : Id) → Mem y (sorted l) → Mem y l
unfolding sorted
sorted-out [] y m = m
sorted-out (x ∷ xs) y m = ⊎_elim (λ e. Memᴰ.head e) (λ k. Memᴰ.tail (sorted-out xs y k)) (insert_out x (sorted xs) y m)

module _ (w : World) (R H : Id → Type 0)
    (readable : (x : Id) → R x → Good w x)
    (closed : (x p : Id) → R x → Mem p (kids w x) → R p)
    (falls : (x p : Id) → R x → Mem p (kids w x) → lt_pair (pair w p) (pair w x) ≡ true)
    (down : (x p : Id) → R x → H x → Mem p (kids w x) → H p) where
  abbrev Inv' : Paint → Type 0
  Inv' st = Inv w R H st

  abbrev Kept' : Paint → Paint → Type 0
  Kept' a b = Kept w R H a b

  -- before the first turn: all that is marked is queued
  record Init (st : Paint) : Type 0 where
    ordered : Sorted st.pending
    entry : (e : Pair × Id) → Mem e st.pending → (e.0 ≡ pair w e.1) × R e.1
    none-stale : (x : Id) → st.stale x ≡ false
    sound : (x : Id) → st.hid x ≡ true → H x
    queued : (x : Id) → (st.vis x ≡ true) ⊎ (st.hid x ≡ true) → InQ w x st.pending

  init-start : Init unpainted
  init-start = record {
    ordered = tt;
    entry = λ e m. absurd (Memᴰ.not-nil m);
    none-stale = λ x. refl;
    sound = λ x e. clash e refl;
    queued = λ x m. ⊎_elim (λ e. clash e refl) (λ e. clash e refl) m;
  }

  init-grew : (m : Marks) (xs : List Id) (st st' : Paint) → m.s ≡ false → ((x : Id) → Mem x xs → R x) → (m.h ≡ true → (x : Id) → Mem x xs → H x)
      → Init st → Grew w m xs st st' → Init st'
  init-grew m xs st st' ms r h i g = record {
    ordered = g.q-sorted i.ordered;
    entry = λ e k. ⊎_elim (λ t. i.entry e t) (λ t. (t.1, r e.1 t.0)) (g.q-new e k);
    none-stale = λ x. not_yes (λ e. ⊎_elim (λ t. clash t (i.none-stale x)) (λ t. clash t.0 ms) (g.stale-new x e));
    sound = λ x e. ⊎_elim (λ t. i.sound x t) (λ t. h t.0 x t.1) (g.hid-new x e);
    queued = λ x e. ⊎_elim
        (λ s. g.q-old (pair w x, x) (i.queued x (⊎_elim (λ t. inl (sym s.0 ∙ t)) (λ t. inr (sym s.1 ∙ t)) e)))
        (λ q. q) (g.same x);
  }

  init-inv : (st : Paint) → Init st → Inv' st
  init-inv st i = record {
    ordered = i.ordered;
    entry = i.entry;
    both = λ x e. clash e (i.none-stale x);
    sound = i.sound;
    settled = λ x m. inl (i.queued x m);
  }

  -- ---- the turns end

  abbrev Ends : Paint → Painting → Type 0
  Ends st r = (st' : Paint) × (r ≡ going st') × Inv' st' × Kept' st st' × (fresh st'.stale st'.pending ≡ false)

  module _ (us : List Id) (within : (x p : Id) → R x → Mem p (kids w x) → Mem p us) where
    one : (st : Paint) → Inv' st → (q : List (Pair × Id)) → st.pending ≡ q → fresh st.stale q ≡ true
        → (st' : Paint) × (turn w st q ≡ going st') × Inv' st' × Kept' st st' × (weight us st' < weight us st)
    unfolding fresh
    one st inv [] is h = clash h refl
    one st inv (q ∷ qs) is h =
        let a = turn-stays w R H readable closed falls down st inv (q ∷ qs) is in
        let r : R q.1 = (inv.entry q (rw is (Memᴰ.head refl))).1 in
        (a.0, a.1, a.2, a.3, turn_weight w us st a.0 q qs is (λ x k. within q.1 x r k) a.1)

    turns-end : (k : ℕ) (st : Paint) → Inv' st → weight us st ≤ k → Ends st (turns w k st)
    unfolding turns then weight
    turns-end zero st inv le = (st, refl, inv, kept_refl w R H readable closed falls down st, fresh-none st.stale st.pending (omega arith))
    turns-end (suc k) st inv le =
        by_cases (fresh st.stale st.pending)
        (λ h.
        let a = one st inv st.pending refl h in
        let b = turns-end k a.0 a.2 (omega (arith, a.4)) in
        (b.0, rw (h, a.1) b.1, b.2, kept_trans w R H readable closed falls down a.3 b.3, b.4))
        (λ h. (st, rw h, inv, kept_refl w R H readable closed falls down st, h))

    -- ---- painting from its tips

    module _ (waiting hidden : List Id) (waiting-R : (x : Id) → Mem x waiting → R x) (hidden-R : (x : Id) → Mem x hidden → R x × H x) where
      abbrev Begun : Type 0
      Begun = (st : Paint) × ((k : ℕ) → paint w k waiting hidden ≡ turns w k st) × Init st
          × ((x : Id) → Mem x waiting → st.vis x ≡ true) × ((x : Id) → Mem x hidden → st.hid x ≡ true) × (weight us st ≤ 3 * length us + length waiting + length hidden)

      begun : Begun
      unfolding paint then weight
      begun =
          let wr : (x : Id) → Mem x (sorted waiting) → R x = λ x m. waiting-R x (sorted-out waiting x m) in
          let a = markAll-went w VISIBLE (sorted waiting) unpainted (λ x m. readable x (wr x m)) in
          let b = markAll-went w HIDDEN hidden a.0 (λ x m. readable x (hidden-R x m).0) in (
            b.0,
            (λ k. rw (a.1, b.1)),
            init-grew HIDDEN hidden a.0 b.0 refl (λ x m. (hidden-R x m).0) (λ e x m. (hidden-R x m).1)
                (init-grew VISIBLE (sorted waiting) unpainted a.0 refl wr (λ e. clash e refl) init-start a.2) b.2,
            (λ x m. b.2.vis-old x (a.2.vis-all refl x (sorted_in waiting x m))),
            (λ x m. b.2.hid-all refl x m),
            omega (arith, total_bound b.0 us, mark_all_length w HIDDEN hidden a.0 b.0 b.1, mark_all_length w VISIBLE (sorted waiting) unpainted a.0 a.1, length_sorted waiting),
          )

      -- what painting gives, with the turns it needs at most
      pub record Painted (st : Paint) : Type 0 where
        pub tips : (x : Id) → Mem x waiting → st.vis x ≡ true
        pub onward : (x p : Id) → st.vis x ≡ true → (st.vis x && st.hid x) ≡ false → Mem p (kids w x) → st.vis p ≡ true
        pub apart : (x z : Id) → st.vis x ≡ true → (st.vis x && st.hid x) ≡ false → Mem z hidden → Down w x z → ⊥
        pub hidden-only : (x : Id) → (st.vis x && st.hid x) ≡ true → H x

      pub paint-done : (k : ℕ) → 3 * length us + length waiting + length hidden ≤ k → (st : Paint) × (paint w k waiting hidden ≡ going st) × Painted st
      paint-done k le =
          let e = turns-end k begun.0 (init-inv begun.0 begun.2) (omega (arith, begun.5)) in
          let st = e.0 in
          let hid : (z : Id) → Mem z hidden → st.hid z ≡ true = λ z m. e.3.hid-kept z (begun.4 z m) in (
            st,
            begun.1 k ∙ e.1,
            record {
              tips = λ x m. e.3.vis-kept x (begun.3 x m);
              onward = λ x p v o m. seen-down w R H readable closed falls down st e.2 e.4 x p v o m;
              apart = λ x z v o m d. clash (and_of v (met w R H readable closed falls down st e.2 e.4 x v z (hidden-R z m).0 (hid z m) d)) o;
              hidden-only = λ x f. front-hidden w R H readable closed falls down st e.2 e.4 x f;
            },
          )
