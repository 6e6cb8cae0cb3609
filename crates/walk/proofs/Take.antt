-- One commit is taken from the queue. Under the premises its header is good and its row, if it has one, says the same; so it is handed out,
-- with the store's parents, and their seconds are the store's.
-- Assumes nothing.
use Rattle.std.specs.Prelude.{None, Option, Some}
use mathlib.Core.Path.{◌≡◌, refl, sym, ◌∙◌, ap, subst}
use mathlib.Core.Logic.{inl, inr, ⊎_elim}
use Prim.Native.Nat.{ℕ, zero, suc}
use mathlib.Core.Bool.{Bool, true, false, not, ◌&&◌}
use mathlib.Core.List.Memᴰ
use mathlib.Core.List.{List, [], ◌∷◌, map, Memᴰ}
use native.Mathlib.Omega.{arith}
use lib.ListN.{take}
use lib.IntN.{ℤ}
use Rattle.hash.specs.Bytes.{Id, if_some}
use Rattle.object.specs.Header.{Header}
use Rattle.walk.specs.declared.Settings.{Settings}
use Rattle.hash.proofs.Tests.{by_cases}
use Rattle.walk.proofs.Laws.{Coherent, cond_both}
use Rattle.walk.specs.declared.Refusal.TheVariants.{CommitUnreadable, TooManyParents}
use Rattle.walk.specs.Settings.{followed, only_first}
use Rattle.walk.specs.Lookup.{World, Row, no_row, row, corrupt, fail, good, from_store, parents_of, Pair, store_seconds, seconds_for, no_generation}
use Rattle.walk.specs.State.{Walk, State, ids, with_queue, is_empty}
use Rattle.walk.specs.Next.{handed, Step, step, zoned, level_shown, visit_all, with_seconds, queued_seconds, step_from_row, from_body, ending, kind_of, take_store, take_row, take_queue, take_next}
use Rattle.walk.specs.Reach.{Mem, NoDup, links, Reaches, itself, through}
use Rattle.walk.specs.Demand.{Readable, Region, Premises}
use Rattle.walk.proofs.Queue.{Away, tip, link, Walked, Due, visitAll-went, nodup_tail, nodup_first}

-- ---- reaching

pub reach_on : (w : World) (x p t : Id) → Reaches w x t → Mem p (links w x) → Reaches w p t
reach_on w x p t (itself e) m = let m' : Mem p (links w t) = rw e m in through m' (itself refl)
reach_on w x p t (through k r) m = through k (reach_on w x p _ r m)

take_sub : {A : Type 0} (a : A) (n : ℕ) (l : List A) → Mem a (take n l) → Mem a l
take_sub a zero l m = absurd (Memᴰ.not-nil m)
take_sub a (suc n) [] m = m
take_sub a (suc n) (x ∷ xs) m = ⊎_elim (λ e. Memᴰ.head e) (λ k. Memᴰ.tail (take_sub a n xs k)) (Memᴰ.cases_cons m)

pub followed_sub : {A : Type 0} (s : Settings) (a : A) (l : List A) → Mem a (followed s l) → Mem a l
unfolding followed
followed_sub s a l m = by_cases (only_first s) (λ h. take_sub a 1 l (rw h at m)) (λ h. rw h at m)

take_map : {A B : Type 0} (f : A → B) (n : ℕ) (l : List A) → map f (take n l) ≡ take n (map f l)
take_map f zero l = refl
take_map f (suc n) [] = refl
take_map f (suc n) (x ∷ xs) = ap (λ r. f x ∷ r) (take_map f n xs)

pub followed_map : {A B : Type 0} (s : Settings) (f : A → B) (l : List A) → map f (followed s l) ≡ followed s (map f l)
unfolding followed
followed_map s f l = by_cases (only_first s) (λ h. rw h (take_map f 1 l)) (λ h. rw h)

pub mem_map : {A B : Type 0} (f : A → B) (a : A) (l : List A) → Mem a l → Mem (f a) (map f l)
mem_map f a [] m = absurd (Memᴰ.not-nil m)
mem_map f a (x ∷ xs) m = ⊎_elim (λ e. Memᴰ.head (ap f e)) (λ k. Memᴰ.tail (mem_map f a xs k)) (Memᴰ.cases_cons m)

-- ---- a readable header

pub record Whole (h : Header) (ps : List Id) : Type 0 where
  pub tree-ok : h.tree ≡ true
  pub not-crowded : h.crowded ≡ false
  pub author-ok : h.author ≡ true
  pub has-seconds : (s : ℤ) × (h.seconds ≡ Some s)
  pub ids_are : h.ids ≡ ps

pub header_of : (o : Option Header) (ps : List Id) (p : Pair) → from_store o ≡ good ps p → (h : Header) × (o ≡ Some h) × Whole h ps
unfolding from_store
header_of None ps p e = let z : ◌≡◌ {A = ℕ} 0 1 = cc in absurd (omega arith)
header_of (Some h) ps p e =
    by_cases h.tree
    (λ t. by_cases h.crowded
    (λ c. let f : fail TooManyParents ≡ good ps p = rw (t, c) at e in let z : ◌≡◌ {A = ℕ} 0 1 = cc in absurd (omega arith))
    (λ c. by_cases h.author
    (λ a. go t c a h.seconds refl (rw (t, c, a) at e))
    (λ a. let f : fail CommitUnreadable ≡ good ps p = rw (t, c, a) at e in let z : ◌≡◌ {A = ℕ} 0 1 = cc in absurd (omega arith))))
    (λ t. let f : fail CommitUnreadable ≡ good ps p = rw t at e in let z : ◌≡◌ {A = ℕ} 0 1 = cc in absurd (omega arith))
  where
    go : h.tree ≡ true → h.crowded ≡ false → h.author ≡ true → (o : Option ℤ) → h.seconds ≡ o
        → if_some o (fail CommitUnreadable) (λ s. good h.ids (record { generation = no_generation; time = s })) ≡ good ps p
        → (h' : Header) × (Some h ≡ Some h') × Whole h' ps
    go t c a None k f = let z : ◌≡◌ {A = ℕ} 0 1 = cc in absurd (omega arith)
    go t c a (Some s) k f = (h, refl, record { tree-ok = t; not-crowded = c; author-ok = a; has-seconds = (s, k); ids_are = cc })

pub ending-whole : (s : Settings) (h : Header) (ps : List Id) → Whole h ps → ending s h ≡ None
unfolding ending
ending-whole s h ps g =
    by_cases (only_first s && not (is_empty h.ids))
    (λ k. rw (g.tree-ok, k))
    (λ k. rw (g.tree-ok, k, g.not-crowded, g.author-ok))

ids_with : (v : Walk) (l : List Id) → map (λ p. p.0) (with_seconds v l) ≡ l
unfolding with_seconds
ids_with v [] = refl
ids_with v (x ∷ xs) = ap (λ r. x ∷ r) (ids_with v xs)

pub with_seconds_lem : (v : Walk) (l : List Id) (p : Id × ℤ) → Mem p (with_seconds v l) → Mem p.0 l × (p.1 ≡ seconds_for v.world p.0)
unfolding with_seconds
with_seconds_lem v [] p m = absurd (Memᴰ.not-nil m)
with_seconds_lem v (x ∷ xs) p m =
    ⊎_elim
    (λ e. (Memᴰ.head (ap (λ q. q.0) e), ap (λ q. q.1) e ∙ sym (ap (λ q. seconds_for v.world q.0) e)))
    (λ k. let r = with_seconds_lem v xs p k in (Memᴰ.tail r.0, r.1))
    (Memᴰ.cases_cons m)

-- every parent that is followed and outside the frontier is seen
abbrev pub Closed : Walk → (Id → Bool) → State → List Id → Type 0
Closed v front st l = (x : Id) → Mem x l → (p : Id) → Mem p (followed v.settings (links v.world x)) → front p ≡ false → st.seen p ≡ true

-- ---- under the premises

module _ (v : Walk) (tips : List Id) (pre : Premises v tips) (coherent : Coherent v.world) where
  pub region-on : (x p : Id) → Region v tips x → Mem p (links v.world x) → Region v tips p
  unfolding Region
  region-on x p r m = (r.0, r.1, reach_on v.world x p r.0 r.2 m)

  pub region-tip : (x : Id) → Mem x tips → Region v tips x
  unfolding Region
  region-tip x m = (x, inl m, itself refl)

  pub region-hidden : (x : Id) → Mem x v.hidden → Region v tips x
  unfolding Region
  region-hidden x m = (x, inr m, itself refl)

  pub away-region : (front : Id → Bool) (x : Id) → Away v tips front x → Region v tips x
  away-region front x (tip a o) = region-tip x a.lent
  away-region front x (link {x = y} b a o) = region-on y x (away-region front y b) (followed_sub v.settings x (links v.world y) a.follows)

  pub header_at : (x : Id) → Region v tips x → (h : Header) × (v.world.store x ≡ Some h) × Whole h (links v.world x)
  unfolding Readable links parents_of
  header_at x r =
      let g = pre.readable x r in
      let a = header_of (v.world.store x) g.0 g.1 g.2 in
      let e : parents_of (from_store (v.world.store x)) ≡ g.0 = rw g.2 in (
        a.0,
        a.1,
        record {
          tree-ok = a.2.tree-ok;
          not-crowded = a.2.not-crowded;
          author-ok = a.2.author-ok;
          has-seconds = a.2.has-seconds;
          ids_are = a.2.ids_are ∙ sym e;
        },
      )

  -- what taking the commit x gives
  abbrev pub Given : State → Id → Step → Type 0
  Given st x r = (k : Option ℕ) × (q : Option ℤ) × (f : List Id) × (ps : List (Id × ℤ)) × (z : Option ℤ)
      × (r ≡ zoned z (step (handed x k q) f (visit_all v st ps)))
      × (map (λ p. p.0) ps ≡ followed v.settings (links v.world x))
      × ((p : Id × ℤ) → Mem p ps → p.1 ≡ seconds_for v.world p.0)

  from-body : (st : State) (x : Id) (t : ℤ) → Region v tips x → Given st x (from_body v st x t (v.world.store x))
  unfolding from_body kind_of
  from-body st x t r =
      let a = header_at x r in
      let f = followed v.settings a.0.ids in (
        None,
        queued_seconds v t,
        f,
        with_seconds v f,
        a.0.zone,
        rw (a.1, ending-whole v.settings a.0 (links v.world x) a.2),
        ids_with v f ∙ ap (followed v.settings) a.2.ids_are,
        (λ p m. (with_seconds_lem v f p m).1),
      )

  seconds-for : (x : Id) (t : ℤ) → store_seconds v.world x ≡ Some t → seconds_for v.world x ≡ t
  unfolding seconds_for
  seconds-for x t e = rw e

  from_row : (st : State) (x : Id) (t : ℤ) (ps : List (Id × ℤ)) (l : ℕ) (s : ℤ) → Region v tips x → v.world.graph x ≡ row ps l s → Given st x (step_from_row v st x t ps l)
  unfolding step_from_row step Coherent
  from_row st x t ps l s r e =
      let f = followed v.settings ps in
      let same = (pre.agrees x r).same-parents ps l s e in (
        level_shown l,
        queued_seconds v t,
        map (λ p. p.0) f,
        f,
        None,
        refl,
        followed_map v.settings (λ p. p.0) ps ∙ ap (followed v.settings) same,
        (λ p m.
            let mp : Mem p ps = followed_sub v.settings p ps m in
            let lp : Mem p.0 (links v.world x) = rw same at (mem_map (λ (q : Id × ℤ). q.0) p ps mp) in
            let rp : Region v tips p.0 = region-on x p.0 r lp in
            ⊎_elim
            (λ c. absurd ((pre.agrees p.0 rp).whole c))
            (λ c. let b : store_seconds v.world p.0 ≡ Some p.1 = (pre.agrees p.0 rp).same-seconds c.0 c.1 p.1 c.2 in
            sym (seconds-for p.0 p.1 b))
            (coherent x ps l s e p mp)),
      )

  take-row : (st : State) (x : Id × ℤ) (rest : List (Id × ℤ)) → Region v tips x.0 → (r : Row) → v.world.graph x.0 ≡ r → Given (with_queue rest st) x.0 (take_row v st x rest r)
  unfolding take_row take_store
  take-row st x rest r no_row e = from-body (with_queue rest st) x.0 x.1 r
  take-row st x rest r corrupt e = absurd ((pre.agrees x.0 r).whole e)
  take-row st x rest r (row ps l s) e = from_row (with_queue rest st) x.0 x.1 ps l s r e

  pub take-given : (st : State) (x : Id × ℤ) (rest : List (Id × ℤ)) → st.queue ≡ x ∷ rest → Region v tips x.0 → Given (with_queue rest st) x.0 (take_next v st)
  unfolding take_next take_queue take_store
  take-given st x rest is r =
      subst (λ (l : List (Id × ℤ)). Given (with_queue rest st) x.0 (take_queue v st l)) (sym is)
      (cond_both (Given (with_queue rest st) x.0) st.kept (take_row v st x rest (v.world.graph x.0)) (take_store v st (x ∷ rest))
      (take-row st x rest r (v.world.graph x.0) refl) (from-body (with_queue rest st) x.0 x.1 r))

  -- ---- the walk goes on

  module _ (front : Id → Bool) where
    out-of-queue : (st : State) (l : List Id) (x : Id × ℤ) (rest : List (Id × ℤ)) → st.queue ≡ x ∷ rest → Walked v tips front st l → Walked v tips front (with_queue rest st) (x.0 ∷ l)
    unfolding with_queue ids
    out-of-queue st l x rest is i =
        let eq : ids st.queue ≡ x.0 ∷ ids rest = ap ids is in
        let once : NoDup (x.0 ∷ ids rest) = rw eq at i.queue-once in
        let in-queue : (y : Id) → Mem y (ids rest) → Mem y (ids st.queue) = λ y k. rw eq (Memᴰ.tail k) in
        let head : Mem x.0 (ids st.queue) = rw eq (Memᴰ.head refl) in
        record {
          is_front = i.is_front;
          queue-away = λ y k. i.queue-away y (in-queue y k);
          queue-once = nodup_tail once;
          queue-new = λ y k m. ⊎_elim (λ e. nodup_first once (rw e at m)) (λ j. i.queue-new y j (in-queue y m)) (Memᴰ.cases_cons k);
          queue-seen = λ y k. i.queue-seen y (in-queue y k);
          done-seen = λ y k. ⊎_elim (λ e. rw e (i.queue-seen x.0 head)) (i.done-seen y) (Memᴰ.cases_cons k);
          seen_in = λ y k a n o. ⊎_elim
              (λ j. inl (Memᴰ.tail j))
              (λ j. ⊎_elim (λ e. inl (Memᴰ.head e)) inr (Memᴰ.cases_cons (rw eq at j)))
              (i.seen_in y k a n o);
          tips-seen = i.tips-seen;
          turned-seen = i.turned-seen;
        }

    pub record Stepped (st : State) (l : List Id) (x : Id) (r : Step) : Type 0 where
      pub generation-of : Option ℕ
      pub seconds-of : Option ℤ
      pub says : r.answer.kind ≡ handed x generation-of seconds-of
      pub walked : Walked v tips front r.state (x ∷ l)
      pub closed : Closed v front r.state (x ∷ l)

    pub take-stepped : (st : State) (l : List Id) (x : Id × ℤ) (rest : List (Id × ℤ)) → st.queue ≡ x ∷ rest → Walked v tips front st l → Closed v front st l
        → Stepped st l x.0 (take_next v st)
    unfolding step with_queue ids
    take-stepped st l x rest is i c =
        let eq : ids st.queue ≡ x.0 ∷ ids rest = ap ids is in
        let away : Away v tips front x.0 = i.queue-away x.0 (rw eq (Memᴰ.head refl)) in
        let g = take-given st x rest is (away-region front x.0 away) in
        let ps = g.3 in
        let due : Due v tips front (x.0 ∷ l) x.0 away ps =
        λ p m. (rw g.6 at (mem_map (λ (q : Id × ℤ). q.0) p ps m), g.7 p m) in
        let a = visitAll-went v tips front (x.0 ∷ l) x.0 away ps (with_queue rest st) (out-of-queue st l x rest is i) due in
        rw g.5 (record {
          generation-of = g.0;
          seconds-of = g.1;
          says = refl;
          walked = a.after_it;
          closed = λ y k p m o. ⊎_elim
              (λ e. a.seen_all p (rw g.6 (rw e at m)) o)
              (λ j. a.seen-old p (c y j p m o))
              (Memᴰ.cases_cons k);
        })
