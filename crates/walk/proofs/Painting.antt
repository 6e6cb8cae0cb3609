-- The loop of painting, in a region where every commit is readable and the pair falls along each link. Every marked commit is queued, or
-- has passed its marks on and nothing queued has a greater pair; a turn keeps this, since it queues parents, whose pairs are lower. When all
-- that is queued is STALE, a VISIBLE commit below a HIDDEN one is HIDDEN: else it is no longer queued, so nothing above it is, and all above
-- it have passed HIDDEN on, down to it.
-- Assumes nothing.
use mathlib.Core.Path.{◌≡◌, refl, sym, ◌∙◌, ap}
use mathlib.Core.Logic.{◌⊎◌, inl, inr, ⊎_elim}
use Prim.Native.Nat.{ℕ, zero, suc}
use mathlib.Core.Bool.{Bool, true, false, not, ◌&&◌, ◌||◌}
use mathlib.Core.List.Memᴰ
use mathlib.Core.List.{List, [], ◌∷◌, Memᴰ}
use lib.IntN.{pos}
use Rattle.hash.specs.Bytes.{Id, eq_id}
use Rattle.walk.specs.Lookup.{World, Pair, Read, fail, good, read, lt_pair, parents_of}
use Rattle.walk.specs.Painting.{also, add_pending, Paint, Painting, going, Marks, then, mark_read, mark, mark_all, lacks, pass, passed, fresh, with_pending, turn, turns}
use Rattle.walk.specs.Reach.{Mem}
use Rattle.hash.proofs.Tests.{by_cases, clash, not_yes, or_left, or_right, and_both, and_of}
use Rattle.hash.proofs.Ids.{eq_id_eq}
use Rattle.walk.proofs.Laws.{also-keeps, also_self, also-cases, also-other, lt_pair_trans, lt_pair_asym, Below, Sorted, add_pending-cases, add_pending-new, add_pending-old, add_pending-sorted}

-- the pair of a commit as it was read
unfoldable pub read_pair : Read → Pair
read_pair (fail n) = record { generation = 0; time = pos 0 }
read_pair (good ps p) = p

lacks-v : (mv mh ms v h s : Bool) → (mv && not v || mh && not h || ms && not s) ≡ false → mv ≡ true → v ≡ true
lacks-v true mh ms true h s e k = refl
lacks-v true mh ms false h s e k = clash refl e
lacks-v false mh ms v h s e k = clash k refl

lacks-h : (mv mh ms v h s : Bool) → (mv && not v || mh && not h || ms && not s) ≡ false → mh ≡ true → h ≡ true
lacks-h mv true ms v true s e k = refl
lacks-h mv true ms v false s e k = clash (or_left (mv && not v || true) (ms && not s) (or_right (mv && not v) true refl)) e
lacks-h mv false ms v h s e k = clash k refl

module _ (w : World) where
  -- a commit's parents and its pair, as painting reads them
  abbrev pub kids : Id → List Id
  kids x = parents_of (read w x)

  abbrev pub pair : Id → Pair
  pair x = read_pair (read w x)

  unfoldable pub Good : Id → Type 0
  Good x = (ps : List Id) × (p : Pair) × (read w x ≡ good ps p)

  abbrev pub InQ : Id → List (Pair × Id) → Type 0
  InQ x q = Mem (pair x, x) q

  -- from st to st' the marks m were given to ids of xs that lacked one, and these were queued
  pub record Grew (m : Marks) (xs : List Id) (st st' : Paint) : Type 0 where
    pub vis-old : (x : Id) → st.vis x ≡ true → st'.vis x ≡ true
    pub hid-old : (x : Id) → st.hid x ≡ true → st'.hid x ≡ true
    pub stale-old : (x : Id) → st.stale x ≡ true → st'.stale x ≡ true
    pub vis-new : (x : Id) → st'.vis x ≡ true → (st.vis x ≡ true) ⊎ ((m.v ≡ true) × Mem x xs)
    pub hid-new : (x : Id) → st'.hid x ≡ true → (st.hid x ≡ true) ⊎ ((m.h ≡ true) × Mem x xs)
    pub stale-new : (x : Id) → st'.stale x ≡ true → (st.stale x ≡ true) ⊎ ((m.s ≡ true) × Mem x xs)
    pub vis-all : m.v ≡ true → (x : Id) → Mem x xs → st'.vis x ≡ true
    pub hid-all : m.h ≡ true → (x : Id) → Mem x xs → st'.hid x ≡ true
    pub same : (x : Id) → ((st'.vis x ≡ st.vis x) × (st'.hid x ≡ st.hid x)) ⊎ InQ x st'.pending
    pub q-old : (e : Pair × Id) → Mem e st.pending → Mem e st'.pending
    pub q-new : (e : Pair × Id) → Mem e st'.pending → Mem e st.pending ⊎ (Mem e.1 xs × (e.0 ≡ pair e.1))
    pub q-sorted : Sorted st.pending → Sorted st'.pending

  nothing : (m : Marks) (st : Paint) → Grew m [] st st
  nothing m st = record {
    vis-old = λ x e. e;
    hid-old = λ x e. e;
    stale-old = λ x e. e;
    vis-new = λ x e. inl e;
    hid-new = λ x e. inl e;
    stale-new = λ x e. inl e;
    vis-all = λ e x k. absurd (Memᴰ.not-nil k);
    hid-all = λ e x k. absurd (Memᴰ.not-nil k);
    same = λ x. inl (refl, refl);
    q-old = λ e k. k;
    q-new = λ e k. inl k;
    q-sorted = λ s. s;
  }

  -- one id, then the others
  module _ {m : Marks} {x : Id} {xs : List Id} {st st₁ st₂ : Paint} where
    after : Grew m (x ∷ []) st st₁ → Grew m xs st₁ st₂ → Grew m (x ∷ xs) st st₂
    after a b = record {
      vis-old = λ y e. b.vis-old y (a.vis-old y e);
      hid-old = λ y e. b.hid-old y (a.hid-old y e);
      stale-old = λ y e. b.stale-old y (a.stale-old y e);
      vis-new = λ y e. ⊎_elim (λ k. ⊎_elim inl (λ t. inr (t.0, one y t.1)) (a.vis-new y k)) (λ k. inr (k.0, Memᴰ.tail k.1)) (b.vis-new y e);
      hid-new = λ y e. ⊎_elim (λ k. ⊎_elim inl (λ t. inr (t.0, one y t.1)) (a.hid-new y k)) (λ k. inr (k.0, Memᴰ.tail k.1)) (b.hid-new y e);
      stale-new = λ y e. ⊎_elim (λ k. ⊎_elim inl (λ t. inr (t.0, one y t.1)) (a.stale-new y k)) (λ k. inr (k.0, Memᴰ.tail k.1)) (b.stale-new y e);
      vis-all = λ e y k. ⊎_elim (λ h. b.vis-old y (a.vis-all e y (Memᴰ.head h))) (λ h. b.vis-all e y h) (Memᴰ.cases_cons k);
      hid-all = λ e y k. ⊎_elim (λ h. b.hid-old y (a.hid-all e y (Memᴰ.head h))) (λ h. b.hid-all e y h) (Memᴰ.cases_cons k);
      same = λ y. ⊎_elim (λ k. ⊎_elim (λ h. inl (k.0 ∙ h.0, k.1 ∙ h.1)) (λ h. inr (b.q-old _ h)) (a.same y)) inr (b.same y);
      q-old = λ e k. b.q-old e (a.q-old e k);
      q-new = λ e k. ⊎_elim (λ h. ⊎_elim inl (λ t. inr (one e.1 t.0, t.1)) (a.q-new e h)) (λ h. inr (Memᴰ.tail h.0, h.1)) (b.q-new e k);
      q-sorted = λ s. b.q-sorted (a.q-sorted s);
    }
      where
        one : (y : Id) → Mem y (x ∷ []) → Mem y (x ∷ xs)
        one y k = ⊎_elim (λ h. Memᴰ.head h) (λ h. absurd (Memᴰ.not-nil h)) (Memᴰ.cases_cons k)

  -- a result that goes on, and how it grew
  abbrev pub Went : Marks → List Id → Paint → Painting → Type 0
  Went m xs st r = (st' : Paint) × (r ≡ going st') × Grew m xs st st'

  mark-went : (m : Marks) (x : Id) (st : Paint) → Good x → Went m (x ∷ []) st (mark w m x st)
  unfolding Good mark mark_read read_pair
  mark-went m x st g =
      let ps = g.0 in
      let p = g.1 in
      let e : read w x ≡ good ps p = g.2 in
      let pe : pair x ≡ p = rw e in
      let st' : Paint = record {
        vis = also m.v st.vis x;
        hid = also m.h st.hid x;
        stale = also m.s st.stale x;
        pending = add_pending p x st.pending;
      } in (
        st',
        rw e,
        record {
          vis-old = λ y k. also-keeps m.v st.vis x y k;
          hid-old = λ y k. also-keeps m.h st.hid x y k;
          stale-old = λ y k. also-keeps m.s st.stale x y k;
          vis-new = λ y k. ⊎_elim inl (λ t. inr (t.0, Memᴰ.head t.1)) (also-cases m.v st.vis x y k);
          hid-new = λ y k. ⊎_elim inl (λ t. inr (t.0, Memᴰ.head t.1)) (also-cases m.h st.hid x y k);
          stale-new = λ y k. ⊎_elim inl (λ t. inr (t.0, Memᴰ.head t.1)) (also-cases m.s st.stale x y k);
          vis-all = λ k y n. ⊎_elim (λ h. rw h (also_self m.v st.vis x k)) (λ h. absurd (Memᴰ.not-nil h)) (Memᴰ.cases_cons n);
          hid-all = λ k y n. ⊎_elim (λ h. rw h (also_self m.h st.hid x k)) (λ h. absurd (Memᴰ.not-nil h)) (Memᴰ.cases_cons n);
          same = λ y. by_cases (eq_id y x)
              (λ h. inr (rw (eq_id_eq y x h, pe) (add_pending-new p x st.pending)))
              (λ h. inl (also-other m.v st.vis x y h, also-other m.h st.hid x y h));
          q-old = λ y k. add_pending-old p x st.pending y k;
          q-new = λ y k. ⊎_elim (λ h. inr (Memᴰ.head (ap (λ t. t.1) h), ap (λ t. t.0) h ∙ sym pe ∙ sym (ap (λ t. pair t.1) h))) inl (add_pending-cases p x st.pending y k);
          q-sorted = λ s. add_pending-sorted p x st.pending s;
        },
      )

  skip-went : (m : Marks) (x : Id) (st : Paint) → lacks m x st ≡ false → Grew m (x ∷ []) st st
  unfolding lacks
  skip-went m x st h = record {
    vis-old = λ x e. e;
    hid-old = λ x e. e;
    stale-old = λ x e. e;
    vis-new = λ x e. inl e;
    hid-new = λ x e. inl e;
    stale-new = λ x e. inl e;
    vis-all = λ k y n. ⊎_elim (λ t. rw t (lacks-v m.v m.h m.s (st.vis x) (st.hid x) (st.stale x) h k)) (λ t. absurd (Memᴰ.not-nil t)) (Memᴰ.cases_cons n);
    hid-all = λ k y n. ⊎_elim (λ t. rw t (lacks-h m.v m.h m.s (st.vis x) (st.hid x) (st.stale x) h k)) (λ t. absurd (Memᴰ.not-nil t)) (Memᴰ.cases_cons n);
    same = λ x. inl (refl, refl);
    q-old = λ e k. k;
    q-new = λ e k. inl k;
    q-sorted = λ s. s;
  }

  abbrev pub AllGood : List Id → Type 0
  AllGood xs = (x : Id) → Mem x xs → Good x

  pub markAll-went : (m : Marks) (xs : List Id) (st : Paint) → AllGood xs → Went m xs st (mark_all w m xs st)
  unfolding mark_all then
  markAll-went m [] st g = (st, refl, nothing m st)
  markAll-went m (x ∷ xs) st g =
      let a = mark-went m x st (g x (Memᴰ.head refl)) in
      let b = markAll-went m xs a.0 (λ y k. g y (Memᴰ.tail k)) in
      (b.0, rw a.1 b.1, after a.2 b.2)

  pub pass-went : (m : Marks) (xs : List Id) (st : Paint) → AllGood xs → Went m xs st (pass w m xs st)
  unfolding pass then
  pass-went m [] st g = (st, refl, nothing m st)
  pass-went m (x ∷ xs) st g =
      by_cases (lacks m x st)
      (λ h.
      let a = mark-went m x st (g x (Memᴰ.head refl)) in
      let b = pass-went m xs a.0 (λ y k. g y (Memᴰ.tail k)) in
      (b.0, rw (h, a.1) b.1, after a.2 b.2))
      (λ h.
      let b = pass-went m xs st (λ y k. g y (Memᴰ.tail k)) in
      (b.0, rw h b.1, after (skip-went m x st h) b.2))

  -- from x one comes to y over parents
  pub data Down (y : Id) : Id → Type 0 where
    at_once : {x : Id} → x ≡ y → Down y x
    by : {x p : Id} → Mem p (kids x) → Down y p → Down y x

stale-both : (s v h : Bool) → (s ≡ true → (v ≡ true) × (h ≡ true)) → (s || v && h) ≡ true → (v ≡ true) × (h ≡ true)
stale-both true v h b e = b refl
stale-both false v h b e = and_both e

-- what the loop keeps: R is the region of the commits read, H holds of what is reachable from a hidden tip
module _ (w : World) (R H : Id → Type 0) where
  -- x is not queued again: it has passed its marks on, and nothing queued has a greater pair
  pub record Done (x : Id) (st : Paint) : Type 0 where
    pub vis-on : st.vis x ≡ true → (p : Id) → Mem p (kids w x) → st.vis p ≡ true
    pub hid-on : st.hid x ≡ true → (p : Id) → Mem p (kids w x) → st.hid p ≡ true
    pub below : Below (pair w x) st.pending

  pub record Inv (st : Paint) : Type 0 where
    pub ordered : Sorted st.pending
    pub entry : (e : Pair × Id) → Mem e st.pending → (e.0 ≡ pair w e.1) × R e.1
    pub both : (x : Id) → st.stale x ≡ true → (st.vis x ≡ true) × (st.hid x ≡ true)
    pub sound : (x : Id) → st.hid x ≡ true → H x
    pub settled : (x : Id) → (st.vis x ≡ true) ⊎ (st.hid x ≡ true) → InQ w x st.pending ⊎ Done x st

  pub record Kept (st st' : Paint) : Type 0 where
    pub vis-kept : (x : Id) → st.vis x ≡ true → st'.vis x ≡ true
    pub hid-kept : (x : Id) → st.hid x ≡ true → st'.hid x ≡ true

  abbrev pub Stays : Paint → Painting → Type 0
  Stays st r = (st' : Paint) × (r ≡ going st') × Inv st' × Kept st st'

  -- In the region, which is closed under parents, every commit is readable and the pair falls along each link;
  -- H is passed down from a commit to its parents.
  module _ (readable : (x : Id) → R x → Good w x)
      (closed : (x p : Id) → R x → Mem p (kids w x) → R p)
      (falls : (x p : Id) → R x → Mem p (kids w x) → lt_pair (pair w p) (pair w x) ≡ true)
      (down : (x p : Id) → R x → H x → Mem p (kids w x) → H p) where
    module _ (st : Paint) (q : Pair × Id) (qs : List (Pair × Id)) (is : st.pending ≡ q ∷ qs) (inv : Inv st) where
      c : Id
      c = q.1

      here : Mem q st.pending
      here = rw is (Memᴰ.head refl)

      later : (e : Pair × Id) → Mem e qs → Mem e st.pending
      later e k = rw is (Memᴰ.tail k)

      head-pair : q.0 ≡ pair w q.1
      head-pair = (inv.entry q here).0

      head-R : R q.1
      head-R = (inv.entry q here).1

      module _ (st' : Paint) (g : Grew w (passed st q.1) (kids w q.1) (with_pending qs st) st') where
        unfolded-sorted : Sorted (q ∷ qs)
        unfolded-sorted = rw is at inv.ordered

        -- what is queued now is from before, or a parent of the commit taken
        from : (e : Pair × Id) → Mem e st'.pending → Mem e qs ⊎ (Mem e.1 (kids w q.1) × (e.0 ≡ pair w e.1))
        unfolding with_pending
        from e k = g.q-new e k

        beneath : (x : Id) → lt_pair (pair w x) q.0 ≡ false → ((e : Pair × Id) → Mem e qs → lt_pair (pair w x) e.0 ≡ false) → Below (pair w x) st'.pending
        unfolding Below
        beneath x h rest e k =
            ⊎_elim (rest e)
            (λ t. not_yes λ l.
            let l₁ : lt_pair (pair w x) (pair w e.1) ≡ true = rw t.1 at l in
            let l₂ : lt_pair (pair w x) (pair w q.1) ≡ true = lt_pair_trans (pair w x) (pair w e.1) (pair w q.1) l₁ (falls q.1 e.1 head-R t.0) in
            clash l₂ (rw head-pair at h))
            (from e k)

        Same : Id → Type 0
        Same x = (st'.vis x ≡ st.vis x) × (st'.hid x ≡ st.hid x)

        taken : Same q.1 → Done q.1 st'
        unfolding Same Below passed
        taken s = record {
          vis-on = λ e p k. g.vis-all (sym s.0 ∙ e) p k;
          hid-on = λ e p k. g.hid-all (sym s.1 ∙ e) p k;
          below = beneath q.1
              (rw (← head-pair) (not_yes (λ l. clash l (lt_pair_asym q.0 q.0 l))))
              (λ e k. rw (← head-pair) (unfolded-sorted.0 e k));
        }

        stay : (x : Id) → Same x → Done x st → Done x st'
        unfolding Same Below with_pending
        stay x s d = record {
          vis-on = λ e p k. g.vis-old p (d.vis-on (sym s.0 ∙ e) p k);
          hid-on = λ e p k. g.hid-old p (d.hid-on (sym s.1 ∙ e) p k);
          below = beneath x (d.below q here) (λ e k. d.below e (later e k));
        }

        settle : (x : Id) → (st'.vis x ≡ true) ⊎ (st'.hid x ≡ true) → InQ w x st'.pending ⊎ Done x st'
        unfolding Same with_pending
        settle x k =
            ⊎_elim
            (λ s. ⊎_elim
            (λ i. ⊎_elim
            (λ e. let ex : x ≡ q.1 = ap (λ t. t.1) e in inr (rw ex (taken (rw ex at s))))
            (λ j. inl (g.q-old (pair w x, x) j))
            (Memᴰ.cases_cons (rw is at i)))
            (λ d. inr (stay x s d))
            (inv.settled x (⊎_elim (λ e. inl (sym s.0 ∙ e)) (λ e. inr (sym s.1 ∙ e)) k)))
            inl
            (g.same x)

        turn-inv : Inv st'
        unfolding with_pending passed
        turn-inv = record {
          ordered = g.q-sorted unfolded-sorted.1;
          entry = λ e k. ⊎_elim (λ h. inv.entry e (later e h)) (λ h. (h.1, closed q.1 e.1 head-R h.0)) (from e k);
          both = λ x k. ⊎_elim
              (λ h. (g.vis-old x (inv.both x h).0, g.hid-old x (inv.both x h).1))
              (λ h. let b = stale-both (st.stale q.1) (st.vis q.1) (st.hid q.1) (λ e. inv.both q.1 e) h.0 in
              (g.vis-all b.0 x h.1, g.hid-all b.1 x h.1))
              (g.stale-new x k);
          sound = λ x k. ⊎_elim (λ h. inv.sound x h) (λ h. down q.1 x head-R (inv.sound q.1 h.0) h.1) (g.hid-new x k);
          settled = settle;
        }

    pub kept_refl : (st : Paint) → Kept st st
    kept_refl st = record { vis-kept = λ x e. e; hid-kept = λ x e. e }

    pub kept_trans : {a b c : Paint} → Kept a b → Kept b c → Kept a c
    kept_trans p q = record { vis-kept = λ x e. q.vis-kept x (p.vis-kept x e); hid-kept = λ x e. q.hid-kept x (p.hid-kept x e) }

    pub turn-stays : (st : Paint) → Inv st → (q : List (Pair × Id)) → st.pending ≡ q → Stays st (turn w st q)
    unfolding turn with_pending
    turn-stays st inv [] is = (st, refl, inv, kept_refl st)
    turn-stays st inv (q ∷ qs) is =
        let r = head-R st q qs is inv in
        let a = pass-went w (passed st q.1) (kids w q.1) (with_pending qs st) (λ y m. readable y (closed q.1 y r m)) in
        (a.0, a.1, turn-inv st q qs is inv a.0 a.2, record { vis-kept = λ x e. a.2.vis-old x e; hid-kept = λ x e. a.2.hid-old x e })

    -- no turn is refused, and the invariant stays
    pub turns-stay : (k : ℕ) (st : Paint) → Inv st → Stays st (turns w k st)
    unfolding turns then
    turns-stay zero st inv = (st, refl, inv, kept_refl st)
    turns-stay (suc k) st inv =
        by_cases (fresh st.stale st.pending)
        (λ h.
        let a = turn-stays st inv st.pending refl in
        let b = turns-stay k a.0 a.2 in
        (b.0, rw (h, a.1) b.1, b.2, kept_trans a.3 b.3))
        (λ h. (st, rw h, inv, kept_refl st))

    -- ---- when every queued commit is STALE

    fresh-stale : (f : Id → Bool) (q : List (Pair × Id)) → fresh f q ≡ false → (e : Pair × Id) → Mem e q → f e.1 ≡ true
    unfolding fresh
    fresh-stale f [] h e m = absurd (Memᴰ.not-nil m)
    fresh-stale f (y ∷ ys) h e m =
        by_cases (f y.1)
        (λ t. ⊎_elim (λ k. rw k t) (fresh-stale f ys (rw t at h) e) (Memᴰ.cases_cons m))
        (λ t. clash refl (rw t at h))

    lower : {y : Id} {p : Id} (x : Id) → R x → Mem p (kids w x) → Down w y p → lt_pair (pair w y) (pair w x) ≡ true
    lower {y} {p} x r m (at_once e) = rw (← e) (falls x p r m)
    lower {y} {p} x r m (by {p = p'} m' d) =
        lt_pair_trans (pair w y) (pair w p) (pair w x) (lower p (closed x p r m) m' d) (falls x p r m)

    module _ (st : Paint) (inv : Inv st) (over : fresh st.stale st.pending ≡ false) where
      -- HIDDEN comes down to a commit that is no longer queued
      comes_down : {x : Id} → Done x st → (z : Id) → R z → st.hid z ≡ true → Down w x z → st.hid x ≡ true
      unfolding Below
      comes_down {x} d z r h (at_once e) = rw (← e) h
      comes_down {x} d z r h (by {p = p} m t) =
          ⊎_elim
          (λ i. clash (lower z r m t) (d.below (pair w z, z) i))
          (λ dz. comes_down d p (closed z p r m) (dz.hid-on h p m) t)
          (inv.settled z (inr h))

      -- a VISIBLE commit below a HIDDEN one is HIDDEN
      pub met : (x : Id) → st.vis x ≡ true → (z : Id) → R z → st.hid z ≡ true → Down w x z → st.hid x ≡ true
      met x v z r h t =
          ⊎_elim
          (λ i. (inv.both x (fresh-stale st.stale st.pending over (pair w x, x) i)).1)
          (λ d. comes_down d z r h t)
          (inv.settled x (inl v))

      -- VISIBLE comes down to every parent of a commit outside the frontier
      pub seen-down : (x p : Id) → st.vis x ≡ true → (st.vis x && st.hid x) ≡ false → Mem p (kids w x) → st.vis p ≡ true
      seen-down x p v o m =
          ⊎_elim
          (λ i. let b = inv.both x (fresh-stale st.stale st.pending over (pair w x, x) i) in clash (and_of b.0 b.1) o)
          (λ d. d.vis-on v p m)
          (inv.settled x (inl v))

      -- the frontier is hidden
      pub front-hidden : (x : Id) → (st.vis x && st.hid x) ≡ true → H x
      front-hidden x e = let b : (st.vis x ≡ true) × (st.hid x ≡ true) = and_both e in inv.sound x b.1
