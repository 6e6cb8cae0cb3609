-- An opening under the premises: each tip that is met first and is not excluded is readable, so it is seen, and it waits unless the cutoff
-- turns it away.
-- Assumes nothing.
use mathlib.Core.Path.{◌≡◌, refl, ◌∙◌, ap, subst}
use mathlib.Core.Logic.{◌⊎◌, inl, inr, ⊎_elim}
use Prim.Native.Nat.{◌+◌, ◌≤◌}
use mathlib.Core.Bool.{Bool, true, false, cond, ◌||◌}
use mathlib.Core.List.Memᴰ
use mathlib.Core.List.{List, [], ◌∷◌, Memᴰ}
use native.Mathlib.Omega.{arith}
use lib.ListN.{length}
use lib.IntN.{ℤ, pos}
use Rattle.hash.specs.Bytes.{Id, eq_id, among}
use Rattle.hash.proofs.Tests.{by_cases, clash, not_yes, or_cases}
use Rattle.hash.proofs.Ids.{eq_id_eq, eq_id_refl}
use Rattle.walk.proofs.Laws.{Coherent}
use Rattle.walk.specs.Settings.{goes_before, by_time, not_before, cutoff_of, timed}
use Rattle.walk.specs.Lookup.{store_seconds}
use Rattle.walk.specs.State.{Walk, State, ids, enter, empty_state, sees, waits}
use Rattle.walk.specs.Opening.{distinct, Opening, opened, tips_in}
use Rattle.walk.specs.Reach.{Mem, NoDup, empty, more}
use Rattle.walk.specs.Demand.{Region, Premises, tipStays}
use Rattle.walk.proofs.Laws.{or_neither, add_self, add-keeps, add-cases}
use Rattle.walk.proofs.Queue.{queued_in, queued-out, queued_nodup, length_queued}
use Rattle.walk.proofs.Take.{header_at}

-- ---- lists without repeats

neither : (a b : Bool) → a ≡ false → b ≡ false → (a || b) ≡ false
neither a b e f = rw (e, f)

pub among-mem : (x : Id) (l : List Id) → among x l ≡ true → Mem x l
unfolding among
among-mem x [] e = clash e refl
among-mem x (y ∷ ys) e = by_cases (eq_id x y) (λ h. Memᴰ.head (eq_id_eq x y h)) (λ h. Memᴰ.tail (among-mem x ys (rw h at e)))

pub mem-among : (x : Id) (l : List Id) → Mem x l → among x l ≡ true
unfolding among
mem-among x [] m = absurd (Memᴰ.not-nil m)
mem-among x (y ∷ ys) m =
    by_cases (eq_id x y) (λ h. rw h)
    (λ h. rw h (⊎_elim (λ e. clash (rw e (eq_id_refl y)) h) (mem-among x ys) (Memᴰ.cases_cons m)))

among_cons : (x y : Id) (l : List Id) → among x (y ∷ l) ≡ false → (eq_id x y ≡ false) × (among x l ≡ false)
unfolding among
among_cons x y l e = by_cases (eq_id x y) (λ h. clash refl (rw h at e)) (λ h. (h, rw h at e))

cons_among : (x y : Id) (l : List Id) → eq_id x y ≡ false → among x l ≡ false → among x (y ∷ l) ≡ false
unfolding among
cons_among x y l a b = rw (a, b)

module _ (excluded : List Id) where
  pub distinct-out : (had l : List Id) (x : Id) → Mem x (distinct had excluded l) → Mem x l × (among x excluded ≡ false) × (among x had ≡ false)
  unfolding distinct
  distinct-out had [] x m = absurd (Memᴰ.not-nil m)
  distinct-out had (y ∷ ys) x m =
      by_cases (among y had || among y excluded)
      (λ h. let r = distinct-out had ys x (rw h at m) in (Memᴰ.tail r.0, r.1, r.2))
      (λ h.
      let n = or_neither (among y had) (among y excluded) h in
      ⊎_elim
      (λ e. (Memᴰ.head e, rw e n.1, rw e n.0))
      (λ k. let r = distinct-out (y ∷ had) ys x k in (Memᴰ.tail r.0, r.1, (among_cons x y had r.2).1))
      (Memᴰ.cases_cons (rw h at m)))

  pub distinct-in : (had l : List Id) (x : Id) → Mem x l → among x excluded ≡ false → among x had ≡ false → Mem x (distinct had excluded l)
  unfolding distinct
  distinct-in had [] x m b a = m
  distinct-in had (y ∷ ys) x m b a =
      by_cases (among y had || among y excluded)
      (λ h. rw h (⊎_elim
      (λ e. ⊎_elim (λ k. clash (rw e k) a) (λ k. clash (rw e k) b) (or_cases {a = among y had} {b = among y excluded} h))
      (λ k. distinct-in had ys x k b a)
      (Memᴰ.cases_cons m)))
      (λ h. rw h (by_cases (eq_id x y)
      (λ e. Memᴰ.head (eq_id_eq x y e))
      (λ e. Memᴰ.tail (⊎_elim (λ k. clash (rw k (eq_id_refl y)) e) (λ k. distinct-in (y ∷ had) ys x k b (cons_among x y had e a)) (Memᴰ.cases_cons m)))))

  pub distinct-once : (had l : List Id) → NoDup (distinct had excluded l)
  unfolding distinct
  distinct-once had [] = empty
  distinct-once had (y ∷ ys) =
      by_cases (among y had || among y excluded)
      (λ h. rw h (distinct-once had ys))
      (λ h. rw h (more (λ k. clash (eq_id_refl y) (among_cons y y had (distinct-out (y ∷ had) ys y k).2).0) (distinct-once (y ∷ had) ys)))

  pub distinct-length : (had l : List Id) → length (distinct had excluded l) ≤ length l
  unfolding distinct
  distinct-length had [] = omega arith
  distinct-length had (y ∷ ys) =
      by_cases (among y had || among y excluded)
      (λ h. rw h (omega (arith, distinct-length had ys)))
      (λ h. rw h (omega (arith, distinct-length (y ∷ had) ys)))

  -- a list that has no repeats and nothing to lose stays as it is
  pub distinct-same : (had l : List Id) → NoDup l → ((x : Id) → Mem x l → (among x had || among x excluded) ≡ false) → distinct had excluded l ≡ l
  unfolding distinct
  distinct-same had [] n f = refl
  distinct-same had (y ∷ ys) (more m n) f =
      let h = f y (Memᴰ.head refl) in
      let r = distinct-same (y ∷ had) ys n (λ x k. still had y ys m f x k) in
      rw h (ap (λ (l : List Id). y ∷ l) r)
    where
      still : (had : List Id) (y : Id) (ys : List Id) → (Mem y ys → ⊥) → ((x : Id) → Mem x (y ∷ ys) → (among x had || among x excluded) ≡ false)
          → (x : Id) → Mem x ys → (among x (y ∷ had) || among x excluded) ≡ false
      still had y ys m f x k =
          let o = or_neither (among x had) (among x excluded) (f x (Memᴰ.tail k)) in
          let d : eq_id x y ≡ false = not_yes (λ e. m (subst (λ (z : Id). Mem z ys) (eq_id_eq x y e) k)) in
          let a : among x (y ∷ had) ≡ false = cons_among x y had d o.0 in
          neither (among x (y ∷ had)) (among x excluded) a o.1

-- ---- the tips enter

module _ (v : Walk) (tips : List Id) where
  pub record Entered (st : State) (done : List Id) : Type 0 where
    pub not-painted : st.painted ≡ false
    pub no_front : (x : Id) → st.frontier x ≡ false
    pub in-queue : (x : Id) → Mem x (ids st.queue) → Mem x done × (tipStays v tips x ≡ true)
    pub stays-in : (x : Id) → Mem x done → tipStays v tips x ≡ true → Mem x (ids st.queue)
    pub seen_done : (x : Id) → st.seen x ≡ true → Mem x done
    pub done-seen : (x : Id) → Mem x done → st.seen x ≡ true
    pub once : NoDup (ids st.queue)
    pub no_longer : length st.queue ≤ length done

  module _ (st : State) (done : List Id) (x : Id) (i : Entered st done) (new : Mem x done → ⊥) where
    waits_in : (t : ℤ) → tipStays v tips x ≡ true → Entered (waits v st x t) (x ∷ done)
    unfolding waits enter
    waits_in t s =
        let b = goes_before v.settings in
        let q : Id × ℤ = (x, cond (by_time v.settings) t (pos 0)) in
        record {
          not-painted = i.not-painted;
          no_front = i.no_front;
          in-queue = λ y k. ⊎_elim (λ e. (Memᴰ.head e, rw e s)) (λ j. let r = i.in-queue y j in (Memᴰ.tail r.0, r.1)) (queued-out b q st.queue y k);
          stays-in = λ y k a. queued_in b q st.queue y (⊎_elim inl (λ j. inr (i.stays-in y j a)) (Memᴰ.cases_cons k));
          seen_done = λ y k. ⊎_elim (λ e. Memᴰ.head e) (λ j. Memᴰ.tail (i.seen_done y j)) (add-cases st.seen x y k);
          done-seen = λ y k. ⊎_elim (λ e. rw e (add_self st.seen x)) (λ j. add-keeps st.seen x y (i.done-seen y j)) (Memᴰ.cases_cons k);
          once = queued_nodup b q st.queue (λ k. new (i.in-queue x k).0) i.once;
          no_longer = omega (arith, length_queued b q st.queue, i.no_longer);
        }

    turned-in : tipStays v tips x ≡ false → Entered (sees st x) (x ∷ done)
    unfolding sees
    turned-in s = record {
      not-painted = i.not-painted;
      no_front = i.no_front;
      in-queue = λ y k. let r = i.in-queue y k in (Memᴰ.tail r.0, r.1);
      stays-in = λ y k a. ⊎_elim (λ e. clash (rw e at a) s) (λ j. i.stays-in y j a) (Memᴰ.cases_cons k);
      seen_done = λ y k. ⊎_elim (λ e. Memᴰ.head e) (λ j. Memᴰ.tail (i.seen_done y j)) (add-cases st.seen x y k);
      done-seen = λ y k. ⊎_elim (λ e. rw e (add_self st.seen x)) (λ j. add-keeps st.seen x y (i.done-seen y j)) (Memᴰ.cases_cons k);
      once = i.once;
      no_longer = omega (arith, i.no_longer);
    }

  module _ (pre : Premises v tips) (coherent : Coherent v.world) where
    -- one tip: it waits, or the cutoff turns it away
    tip-case : (st : State) (x : Id) (xs : List Id) → Region v tips x
        → ((t : ℤ) × (tipStays v tips x ≡ true) × (tips_in v (x ∷ xs) st ≡ tips_in v xs (waits v st x t)))
        ⊎ ((tipStays v tips x ≡ false) × (tips_in v (x ∷ xs) st ≡ tips_in v xs (sees st x)))
    unfolding tipStays store_seconds tips_in
    tip-case st x xs r =
        let h = header_at v tips pre coherent x r in
        let s = h.2.has-seconds in
        by_cases (timed v.settings.sorting)
        (λ t. by_cases (not_before (cutoff_of v.settings.sorting) s.0)
        (λ n. inl (s.0, rw (t, h.1, s.1, n), rw (t, h.1, s.1, n)))
        (λ n. inr (rw (t, h.1, s.1, n), rw (t, h.1, s.1, n))))
        (λ t. inl (pos 0, rw t, rw t))

    pub record Opened (done xs : List Id) (o : Opening) : Type 0 where
      pub state : State
      pub is : o ≡ opened state
      pub done' : List Id
      pub entered : Entered state done'
      pub from-lists : (x : Id) → Mem x done' → Mem x xs ⊎ Mem x done
      pub to-done : (x : Id) → Mem x xs ⊎ Mem x done → Mem x done'
      pub as_long : length done' ≡ length xs + length done

    tips_in_lem : (xs : List Id) (st : State) (done : List Id) → NoDup xs → ((x : Id) → Mem x xs → Mem x done → ⊥) → ((x : Id) → Mem x xs → Region v tips x)
        → Entered st done → Opened done xs (tips_in v xs st)
    unfolding tips_in
    tips_in_lem [] st done d n r i = record {
      state = st;
      is = refl;
      done' = done;
      entered = i;
      from-lists = λ x k. inr k;
      to-done = λ x k. ⊎_elim (λ j. absurd (Memᴰ.not-nil j)) (λ j. j) k;
      as_long = omega arith;
    }
    tips_in_lem (x ∷ xs) st done (more nx d) n r i =
        ⊎_elim
        (λ a. goes (waits v st x a.0) a.2 (tips_in_lem xs (waits v st x a.0) (x ∷ done) d new (λ y k. r y (Memᴰ.tail k)) (waits_in st done x i here a.0 a.1)))
        (λ a. goes (sees st x) a.1 (tips_in_lem xs (sees st x) (x ∷ done) d new (λ y k. r y (Memᴰ.tail k)) (turned-in st done x i here a.0)))
        (tip-case st x xs (r x (Memᴰ.head refl)))
      where
        here : Mem x done → ⊥
        here k = n x (Memᴰ.head refl) k

        new : (y : Id) → Mem y xs → Mem y (x ∷ done) → ⊥
        new y k m = ⊎_elim (λ e. nx (rw e at k)) (λ j. n y (Memᴰ.tail k) j) (Memᴰ.cases_cons m)

        goes : (st' : State) → tips_in v (x ∷ xs) st ≡ tips_in v xs st' → Opened (x ∷ done) xs (tips_in v xs st') → Opened done (x ∷ xs) (tips_in v (x ∷ xs) st)
        goes st' e o = record {
          state = o.state;
          is = e ∙ o.is;
          done' = o.done';
          entered = o.entered;
          from-lists = λ y k. ⊎_elim (λ j. inl (Memᴰ.tail j)) (λ j. ⊎_elim (λ q. inl (Memᴰ.head q)) inr (Memᴰ.cases_cons j)) (o.from-lists y k);
          to-done = λ y k. o.to-done y (⊎_elim (λ j. ⊎_elim (λ q. inr (Memᴰ.head q)) inl (Memᴰ.cases_cons j)) (λ j. inr (Memᴰ.tail j)) k);
          as_long = omega (arith, o.as_long);
        }

    pub tips-opened : (xs : List Id) → NoDup xs → ((x : Id) → Mem x xs → Region v tips x) → Opened [] xs (tips_in v xs empty_state)
    unfolding ids
    tips-opened xs d r = tips_in_lem xs empty_state [] d (λ x k m. Memᴰ.not-nil m) r (record {
      not-painted = refl;
      no_front = λ x. refl;
      in-queue = λ x k. absurd (Memᴰ.not-nil k);
      stays-in = λ x k. absurd (Memᴰ.not-nil k);
      seen_done = λ x e. clash e refl;
      done-seen = λ x k. absurd (Memᴰ.not-nil k);
      once = empty;
      no_longer = omega arith;
    })
