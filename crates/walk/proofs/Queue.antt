-- The queue, and what the walk keeps under the premises. Entering a queue adds one id and keeps the others; so after each visit the waiting
-- ids are different, seen, not handed out yet and reached outside the frontier, and a seen id whose link is admitted waits or was handed out.
-- Assumes nothing.
use mathlib.Core.Path.{◌≡◌, refl, sym, ◌∙◌, ap}
use mathlib.Core.Logic.{◌⊎◌, inl, inr, ⊎_elim}
use Prim.Native.Nat.{suc}
use mathlib.Core.Bool.{Bool, true, false, cond, not, ◌||◌}
use mathlib.Core.List.Memᴰ
use mathlib.Core.List.{List, [], ◌∷◌, map, Memᴰ}
use lib.ListN.{length}
use lib.IntN.{ℤ, pos}
use Rattle.hash.specs.Bytes.{Id, among}
use Rattle.walk.specs.Settings.{goes_before, by_time, not_before, cutoff_of, followed, only_first}
use Rattle.walk.specs.Lookup.{seconds_for}
use Rattle.walk.specs.State.{Walk, State, ids, queued, enter, sees, waits}
use Rattle.walk.specs.Next.{admits, visit, visit_all}
use Rattle.walk.specs.Reach.{Mem, NoDup, empty, more, links}
use Rattle.walk.specs.Demand.{AdmittedTip, Turned, AdmittedLink}
use Rattle.hash.proofs.Tests.{by_cases, clash, or_cases, and_both, and_of}
use Rattle.walk.proofs.Laws.{or_neither, not_yes_no, not_no_yes, add_self, add-keeps, add-cases}

-- ---- the queue

pub queued-out : (b : ℤ → ℤ → Bool) (x : Id × ℤ) (l : List (Id × ℤ)) (y : Id) → Mem y (ids (queued b x l)) → (y ≡ x.0) ⊎ Mem y (ids l)
unfolding queued ids
queued-out b x [] y m = Memᴰ.cases_cons m
queued-out b x (z ∷ zs) y m =
    by_cases (b x.1 z.1)
    (λ h. Memᴰ.cases_cons (rw h at m))
    (λ h. ⊎_elim (λ e. inr (Memᴰ.head e)) (λ k. ⊎_elim inl (λ r. inr (Memᴰ.tail r)) (queued-out b x zs y k)) (Memᴰ.cases_cons (rw h at m)))

pub queued_in : (b : ℤ → ℤ → Bool) (x : Id × ℤ) (l : List (Id × ℤ)) (y : Id) → (y ≡ x.0) ⊎ Mem y (ids l) → Mem y (ids (queued b x l))
unfolding queued ids
queued_in b x [] y m = ⊎_elim (λ e. Memᴰ.head e) (λ k. absurd (Memᴰ.not-nil k)) m
queued_in b x (z ∷ zs) y m =
    by_cases (b x.1 z.1)
    (λ h. rw h (⊎_elim (λ e. Memᴰ.head e) (λ k. Memᴰ.tail k) m))
    (λ h. rw h (⊎_elim (λ e. Memᴰ.tail (queued_in b x zs y (inl e)))
    (λ k. ⊎_elim (λ e. Memᴰ.head e) (λ r. Memᴰ.tail (queued_in b x zs y (inr r))) (Memᴰ.cases_cons k)) m))

pub nodup_tail : {x : Id} {l : List Id} → NoDup (x ∷ l) → NoDup l
nodup_tail (more n d) = d

pub nodup_first : {x : Id} {l : List Id} → NoDup (x ∷ l) → Mem x l → ⊥
nodup_first (more n d) = n

pub queued_nodup : (b : ℤ → ℤ → Bool) (x : Id × ℤ) (l : List (Id × ℤ)) → (Mem x.0 (ids l) → ⊥) → NoDup (ids l) → NoDup (ids (queued b x l))
unfolding queued ids
queued_nodup b x [] n d = more (λ k. Memᴰ.not-nil k) empty
queued_nodup b x (z ∷ zs) n d =
    by_cases (b x.1 z.1)
    (λ h. rw h (more n d))
    (λ h. rw h (more
    (λ k. ⊎_elim (λ e. n (Memᴰ.head (sym e))) (nodup_first d) (queued-out b x zs z.0 k))
    (queued_nodup b x zs (λ k. n (Memᴰ.tail k)) (nodup_tail d))))

pub length_queued : (b : ℤ → ℤ → Bool) (x : Id × ℤ) (l : List (Id × ℤ)) → length (queued b x l) ≡ suc (length l)
unfolding queued
length_queued b x [] = refl
length_queued b x (z ∷ zs) = by_cases (b x.1 z.1) (λ h. rw h) (λ h. rw (h, length_queued b x zs))

-- ---- what the walk keeps, after the ids of l were handed out

pub admits-both : (v : Walk) (p : Id) (t : ℤ) → admits v p t ≡ true → (among p v.excluded ≡ false) × ((only_first v.settings || not_before (cutoff_of v.settings.sorting) t) ≡ true)
unfolding admits
admits-both v p t e =
    let b : (not (among p v.excluded) ≡ true) × ((only_first v.settings || not_before (cutoff_of v.settings.sorting) t) ≡ true) = and_both e in
    (not_yes_no (among p v.excluded) b.0, b.1)

pub admits_of : (v : Walk) (p : Id) (t : ℤ) → among p v.excluded ≡ false → (only_first v.settings || not_before (cutoff_of v.settings.sorting) t) ≡ true → admits v p t ≡ true
unfolding admits
admits_of v p t a b = and_of (not_no_yes (among p v.excluded) a) b

module _ (v : Walk) (tips : List Id) (front : Id → Bool) where
  -- reached from an admitted tip over admitted links, outside the frontier all the way
  pub data Away : Id → Type 0 where
    tip : {x : Id} → AdmittedTip v tips x → front x ≡ false → Away x
    link : {x p : Id} → Away x → AdmittedLink v tips x p → front p ≡ false → Away p

  pub record Walked (st : State) (l : List Id) : Type 0 where
    pub is_front : (x : Id) → st.frontier x ≡ front x
    pub queue-away : (x : Id) → Mem x (ids st.queue) → Away x
    pub queue-once : NoDup (ids st.queue)
    pub queue-new : (x : Id) → Mem x l → Mem x (ids st.queue) → ⊥
    pub queue-seen : (x : Id) → Mem x (ids st.queue) → st.seen x ≡ true
    pub done-seen : (x : Id) → Mem x l → st.seen x ≡ true
    pub seen_in : (x : Id) → st.seen x ≡ true → admits v x (seconds_for v.world x) ≡ true → (Turned v tips x → ⊥) → front x ≡ false → Mem x l ⊎ Mem x (ids st.queue)
    pub tips-seen : (x : Id) → AdmittedTip v tips x → st.seen x ≡ true
    pub turned-seen : (x : Id) → Turned v tips x → st.seen x ≡ true

  -- one parent p of a commit x that was handed out
  module _ (l : List Id) (x : Id) (away : Away x) where
    pub record Went (st : State) (p : Id) (st' : State) : Type 0 where
      pub after_it : Walked st' l
      pub seen-old : (y : Id) → st.seen y ≡ true → st'.seen y ≡ true
      pub seen-new : front p ≡ false → st'.seen p ≡ true

    visit-went : (st : State) (p : Id) (t : ℤ) → Walked st l → Mem p (followed v.settings (links v.world x)) → t ≡ seconds_for v.world p → Went st p (visit v st p t)
    unfolding visit waits sees enter
    visit-went st p t i f e =
        by_cases (st.frontier p || st.seen p)
        (λ h. rw h (record {
          after_it = i;
          seen-old = λ y k. k;
          seen-new = λ o. ⊎_elim (λ k. clash k (i.is_front p ∙ o)) (λ k. k) (or_cases {a = st.frontier p} {b = st.seen p} h);
        }))
        (λ h.
        let n = or_neither (st.frontier p) (st.seen p) h in
        let out : front p ≡ false = sym (i.is_front p) ∙ n.0 in
        let absent : Mem p (ids st.queue) → ⊥ = λ k. clash (i.queue-seen p k) n.1 in
        let not-turned : Turned v tips p → ⊥ = λ k. clash (i.turned-seen p k) n.1 in
        by_cases (admits v p t)
        (λ a.
        let q : Id × ℤ = (p, cond (by_time v.settings) t (pos 0)) in
        let b = admits-both v p t a in
        rw (h, a) (record {
          after_it = record {
            is_front = i.is_front;
            queue-away = λ y k. ⊎_elim
                (λ j. rw j (link away (record { follows = f; not-excluded = b.0; not-turned = not-turned; in_time = rw e at b.1 }) out))
                (i.queue-away y) (queued-out (goes_before v.settings) q st.queue y k);
            queue-once = queued_nodup (goes_before v.settings) q st.queue absent i.queue-once;
            queue-new = λ y k m. ⊎_elim (λ j. clash (i.done-seen p (rw j at k)) n.1) (i.queue-new y k) (queued-out (goes_before v.settings) q st.queue y m);
            queue-seen = λ y k. ⊎_elim (λ j. rw j (add_self st.seen p)) (λ j. add-keeps st.seen p y (i.queue-seen y j)) (queued-out (goes_before v.settings) q st.queue y k);
            done-seen = λ y k. add-keeps st.seen p y (i.done-seen y k);
            seen_in = λ y k c d o. ⊎_elim
                (λ j. inr (queued_in (goes_before v.settings) q st.queue y (inl j)))
                (λ j. ⊎_elim inl (λ r. inr (queued_in (goes_before v.settings) q st.queue y (inr r))) (i.seen_in y j c d o))
                (add-cases st.seen p y k);
            tips-seen = λ y k. add-keeps st.seen p y (i.tips-seen y k);
            turned-seen = λ y k. add-keeps st.seen p y (i.turned-seen y k);
          };
          seen-old = λ y k. add-keeps st.seen p y k;
          seen-new = λ o. add_self st.seen p;
        }))
        (λ a.
        rw (h, a) (record {
          after_it = record {
            is_front = i.is_front;
            queue-away = i.queue-away;
            queue-once = i.queue-once;
            queue-new = i.queue-new;
            queue-seen = λ y k. add-keeps st.seen p y (i.queue-seen y k);
            done-seen = λ y k. add-keeps st.seen p y (i.done-seen y k);
            seen_in = λ y k c d o. ⊎_elim
                (λ j. let c₁ : admits v p (seconds_for v.world p) ≡ true = rw j at c in clash (ap (admits v p) e ∙ c₁) a)
                (λ j. i.seen_in y j c d o)
                (add-cases st.seen p y k);
            tips-seen = λ y k. add-keeps st.seen p y (i.tips-seen y k);
            turned-seen = λ y k. add-keeps st.seen p y (i.turned-seen y k);
          };
          seen-old = λ y k. add-keeps st.seen p y k;
          seen-new = λ o. add_self st.seen p;
        })))

    -- every parent that is followed, with its seconds
    abbrev pub Due : List (Id × ℤ) → Type 0
    Due ps = (p : Id × ℤ) → Mem p ps → Mem p.0 (followed v.settings (links v.world x)) × (p.1 ≡ seconds_for v.world p.0)

    pub record AllWent (st : State) (ps : List (Id × ℤ)) (st' : State) : Type 0 where
      pub after_it : Walked st' l
      pub seen-old : (y : Id) → st.seen y ≡ true → st'.seen y ≡ true
      pub seen_all : (p : Id) → Mem p (map (λ q. q.0) ps) → front p ≡ false → st'.seen p ≡ true

    pub visitAll-went : (ps : List (Id × ℤ)) (st : State) → Walked st l → Due ps → AllWent st ps (visit_all v st ps)
    unfolding visit_all
    visitAll-went [] st i d = record { after_it = i; seen-old = λ y k. k; seen_all = λ p k. absurd (Memᴰ.not-nil k) }
    visitAll-went (p ∷ ps) st i d =
        let dp = d p (Memᴰ.head refl) in
        let a = visit-went st p.0 p.1 i dp.0 dp.1 in
        let b = visitAll-went ps (visit v st p.0 p.1) a.after_it (λ q k. d q (Memᴰ.tail k)) in
        record {
          after_it = b.after_it;
          seen-old = λ y k. b.seen-old y (a.seen-old y k);
          seen_all = λ q k o. ⊎_elim (λ j. b.seen-old q (rw j (a.seen-new (rw j at o)))) (λ j. b.seen_all q j o) (Memᴰ.cases_cons k);
        }
