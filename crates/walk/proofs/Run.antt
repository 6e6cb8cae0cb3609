-- The whole list of calls on a painted state, under the premises. Each call hands out the first that waits and leaves fewer that wait or are
-- unseen; when nothing waits, all that is reached outside the frontier was handed out, since the parents of what was handed out are seen.
-- Assumes nothing.
use Rattle.std.specs.Prelude.{None, Option, Some}
use mathlib.Core.Path.{◌≡◌, refl, sym, ◌∙◌, ap, subst}
use mathlib.Core.Logic.{◌⊎◌, inl, inr, ⊎_elim}
use Prim.Native.Nat.{ℕ, zero, suc, ◌≤◌, ◌<◌}
use mathlib.Core.Bool.{Bool, true, false, cond, ◌||◌}
use mathlib.Core.List.Memᴰ
use mathlib.Core.List.{List, [], ◌∷◌, Memᴰ}
use native.Mathlib.Omega.{arith}
use lib.ListN.{length}
use lib.IntN.{ℤ, pos}
use Rattle.hash.specs.Bytes.{Id, if_some}
use Rattle.walk.specs.declared.Sorting.{Sorting}
use Rattle.hash.proofs.Tests.{clash, or_right}
use Rattle.walk.proofs.Laws.{Coherent}
use Rattle.walk.specs.Settings.{not_before, cutoff_of, timed, only_first}
use Rattle.walk.specs.Lookup.{store_seconds, seconds_for}
use Rattle.walk.specs.State.{Walk, State, ids, with_queue}
use Rattle.walk.specs.Next.{handed, Step, step, visit_all, take_next}
use Rattle.walk.specs.Calls.{calls}
use Rattle.walk.specs.Reach.{Mem, NoDup, empty, more, links}
use Rattle.walk.specs.Demand.{Region, Premises, tipStays, Hands, no_more-calls, hands, ends}
use Rattle.walk.specs.declared.Sorting.TheVariants.{BreadthFirst, ByCommitTime, ByCommitTimeCutoff}
use Rattle.walk.proofs.Queue.{Away, tip, link, Walked, admits_of}
use Rattle.walk.proofs.Visits.{left, visit_all-left, visit_all-painted}
use Rattle.walk.proofs.Moves.{next-painted}
use Rattle.walk.proofs.Stays.{Ended, ended-next}
use Rattle.walk.proofs.Take.{Closed, take-given, take-stepped, away-region, followed_sub, mem_map}

-- ---- an admitted tip is admitted as a link would be

time_of : (s : Sorting) (first : Bool) (b : Option ℤ) → cond (timed s) (if_some b false (λ t. not_before (cutoff_of s) t)) true ≡ true
    → (first || not_before (cutoff_of s) (if_some b (pos 0) (λ t. t))) ≡ true
unfolding timed cutoff_of not_before
time_of BreadthFirst f b e = or_right f true refl
time_of (ByCommitTime o) f None e = clash e refl
time_of (ByCommitTime o) f (Some t) e = or_right f _ e
time_of (ByCommitTimeCutoff o c) f None e = clash e refl
time_of (ByCommitTimeCutoff o c) f (Some t) e = or_right f _ e

tip_in-time : (v : Walk) (tips : List Id) (x : Id) → tipStays v tips x ≡ true → (only_first v.settings || not_before (cutoff_of v.settings.sorting) (seconds_for v.world x)) ≡ true
unfolding tipStays seconds_for
tip_in-time v tips x e = time_of v.settings.sorting (only_first v.settings) (store_seconds v.world x) e

ids_cons : {l : List (Id × ℤ)} {x : Id × ℤ} {q : List (Id × ℤ)} → l ≡ x ∷ q → ids l ≡ x.0 ∷ ids q
unfolding ids
ids_cons e = ap ids e

module _ (v : Walk) (tips : List Id) (pre : Premises v tips) (coherent : Coherent v.world) (front : Id → Bool)
    (us : List Id) (within : (x p : Id) → Region v tips x → Mem p (links v.world x) → Mem p us) where
  abbrev Walked' : State → List Id → Type 0
  Walked' st l = Walked v tips front st l

  abbrev Closed' : State → List Id → Type 0
  Closed' st l = Closed v front st l

  -- an empty queue: all that is away was handed out
  all_done : (st : State) (l : List Id) → ids st.queue ≡ [] → Walked' st l → Closed' st l → (x : Id) → Away v tips front x → Mem x l
  all_done st l is i c x (tip a o) =
      ⊎_elim (λ k. k) (λ k. absurd (Memᴰ.not-nil (rw is at k)))
      (i.seen_in x (i.tips-seen x a) (admits_of v x (seconds_for v.world x) a.not-excluded (tip_in-time v tips x a.stays)) (λ t. clash a.stays t.away) o)
  all_done st l is i c x (link {x = y} b a o) =
      ⊎_elim (λ k. k) (λ k. absurd (Memᴰ.not-nil (rw is at k)))
      (i.seen_in x (c y (all_done st l is i c y b) x a.follows o) (admits_of v x (seconds_for v.world x) a.not-excluded a.in_time) a.not-turned o)

  -- one more is handed out, and less is left
  lighter : (st : State) (l : List Id) (x : Id × ℤ) (rest : List (Id × ℤ)) → st.queue ≡ x ∷ rest → Walked' st l
      → (left us (take_next v st).state < left us st) × ((take_next v st).state.painted ≡ st.painted)
  unfolding step with_queue ids left
  lighter st l x rest is i =
      let away : Away v tips front x.0 = i.queue-away x.0 (rw (ap ids is) (Memᴰ.head refl)) in
      let r : Region v tips x.0 = away-region v tips pre coherent front x.0 away in
      let g = take-given v tips pre coherent st x rest is r in
      let e : (take_next v st).state ≡ visit_all v (with_queue rest st) g.3 = ap (λ (q : Step). q.state) g.5 in
      let k : left us (visit_all v (with_queue rest st) g.3) ≤ left us (with_queue rest st) = visit_all-left v us g.3 (with_queue rest st)
      (λ p m. within x.0 p.0 r (followed_sub v.settings p.0 (links v.world x.0) (rw g.6 at (mem_map (λ (q : Id × ℤ). q.0) p g.3 m)))) in
      let n : length st.queue ≡ suc (length rest) = ap length is in
      (omega (arith, ap (left us) e), ap (λ (s : State). s.painted) e ∙ visit_all-painted v g.3 (with_queue rest st))

  -- ---- all calls

  abbrev pub Rest : ℕ → State → List Id → Type 0
  Rest n st l = (rest : List Id) × NoDup rest × ((x : Id) → Mem x rest → Mem x l → ⊥) × ((x : Id) → Mem x rest → Away v tips front x)
      × ((x : Id) → Away v tips front x → Mem x l ⊎ Mem x rest) × (length rest ≤ n) × ((k : ℕ) → Hands rest (calls v k st))

  calls-end : (st : State) → Ended st → (k : ℕ) → Hands [] (calls v k st)
  unfolding calls step
  calls-end st e zero = no_more-calls
  calls-end st e (suc k) = subst (λ (r : Step). Hands [] (r.answer ∷ calls v k r.state)) (sym (ended-next v st e)) (ends refl (calls-end st e k))

  finished : (n : ℕ) (st : State) (l : List Id) → st.painted ≡ true → Walked' st l → Closed' st l → st.queue ≡ [] → Rest n st l
  unfolding ids
  finished n st l p i c is = (
    [],
    empty,
    (λ x k. absurd (Memᴰ.not-nil k)),
    (λ x k. absurd (Memᴰ.not-nil k)),
    (λ x a. inl (all_done st l (ap ids is) i c x a)),
    omega arith,
    calls-end st (record { is-painted = p; is-empty = is }),
  )

  base : (st : State) (l : List Id) → left us st ≤ 0 → st.painted ≡ true → Walked' st l → Closed' st l → (q : List (Id × ℤ)) → st.queue ≡ q → Rest 0 st l
  unfolding left
  base st l le p i c [] is = finished 0 st l p i c is
  base st l le p i c (x ∷ q) is = absurd (omega (arith, ap length is))

  calls-more : (st : State) (x : Id) (generation : Option ℕ) (t : Option ℤ) (rest : List Id) → st.painted ≡ true → (take_next v st).answer.kind ≡ handed x generation t
      → ((k : ℕ) → Hands rest (calls v k (take_next v st).state)) → (k : ℕ) → Hands (x ∷ rest) (calls v k st)
  unfolding calls
  calls-more st x generation t rest p e h zero = no_more-calls
  calls-more st x generation t rest p e h (suc k) =
      subst (λ (r : Step). Hands (x ∷ rest) (r.answer ∷ calls v k r.state)) (sym (next-painted v st p)) (hands generation t e (h k))

  onward : (n : ℕ) → ((st : State) (l : List Id) → left us st ≤ n → st.painted ≡ true → Walked' st l → Closed' st l → Rest n st l)
      → (st : State) (l : List Id) → left us st ≤ suc n → st.painted ≡ true → Walked' st l → Closed' st l → (q : List (Id × ℤ)) → st.queue ≡ q → Rest (suc n) st l
  onward n rec st l le p i c [] is = finished (suc n) st l p i c is
  onward n rec st l le p i c (x ∷ q) is =
      let s = take-stepped v tips pre coherent front st l x q is i c in
      let w = lighter st l x q is i in
      let r : Rest n (take_next v st).state (x.0 ∷ l) = rec (take_next v st).state (x.0 ∷ l) (omega (arith, w.0)) (w.1 ∙ p) s.walked s.closed in (
        x.0 ∷ r.0,
        more (λ k. r.2 x.0 k (Memᴰ.head refl)) r.1,
        (λ y k m. ⊎_elim (λ e. here (rw e at m)) (λ j. r.2 y j (Memᴰ.tail m)) (Memᴰ.cases_cons k)),
        (λ y k. ⊎_elim (λ e. rw e away) (r.3 y) (Memᴰ.cases_cons k)),
        (λ y a. ⊎_elim
            (λ j. ⊎_elim (λ e. inr (Memᴰ.head e)) inl (Memᴰ.cases_cons j))
            (λ j. inr (Memᴰ.tail j)) (r.4 y a)),
        omega (arith, r.5),
        calls-more st x.0 s.generation-of s.seconds-of r.0 p s.says r.6,
      )
    where
      in-queue : Mem x.0 (ids st.queue)
      in-queue = rw (ids_cons is) (Memᴰ.head refl)

      away : Away v tips front x.0
      away = i.queue-away x.0 in-queue

      here : Mem x.0 l → ⊥
      here m = i.queue-new x.0 m in-queue

  pub run : (n : ℕ) (st : State) (l : List Id) → left us st ≤ n → st.painted ≡ true → Walked' st l → Closed' st l → Rest n st l
  run zero st l le p i c = base st l le p i c st.queue refl
  run (suc n) st l le p i c = onward n (λ st' l' a b d e. run n st' l' a b d e) st l le p i c st.queue refl
