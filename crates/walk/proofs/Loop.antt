-- Painting's memory, on any input. Each id of the two lists is queued once and gets a mark for it; after that an id is queued only together with a
-- mark that it lacked. So the queue and the turns together are at most three times the places for ids, and these are named by the lists and the files.
-- Assumes nothing.
use mathlib.Core.Path.{◌≡◌, refl, sym, ◌∙◌, ap, subst}
use mathlib.Core.Logic.{◌⊎◌, inl, inr, ⊎_elim}
use Prim.Native.Nat.{ℕ, zero, suc, ◌+◌, ◌*◌, ◌≤◌, ◌<◌}
use mathlib.Core.Bool.{Bool, true, false}
use mathlib.Core.List.Memᴰ
use mathlib.Core.List.{List, [], ◌∷◌, ◌++◌}
use native.Mathlib.Omega.{arith}
use lib.ListN.{length, length-append}
use Rattle.hash.specs.Bytes.{Id}
use Rattle.commitgraph.specs.Graph.{graph_count}
use Rattle.walk.specs.Lookup.{World, Read, fail, good, read, Pair}
use Rattle.walk.specs.State.{ids, State}
use Rattle.walk.specs.Opening.{Input, walk_of, P, open_walk, opened, width_in}
use Rattle.walk.specs.Painting.{Paint, Painting, stop, going, Marks, then, mark_read, mark, mark_all, lacks, pass, passed, with_pending, turn, turns, fresh, also, add_pending, sorted, unpainted, VISIBLE, HIDDEN, paint}
use Rattle.walk.specs.Universe.{store_parents, row_ids, names, universe}
use Rattle.walk.specs.Reach.{Mem}
use Rattle.walk.proofs.Comes.{Phase, showing, hiding, turning, passing, due, Comes, at_first, shows, all_shown, hides, all-hidden, takes, skips, gives, all-passed, PaintingOf, Touched, is_seen, is-visible, is_hidden, is-stale, is-queued, is-due, PaintingFits}
use Rattle.hash.proofs.Tests.{by_cases, clash}
use Rattle.walk.proofs.Laws.{also-keeps, also_self, also-cases, add_pending-cases, lack}
use Rattle.walk.proofs.Painting.{kids}
use Rattle.walk.proofs.Fuel.{turn_weight, missing, total, weight, total_bound, pass_weight, total-pending, length_add_pending, length_sorted}
use Rattle.walk.proofs.Painted.{sorted-out}
use Rattle.walk.proofs.Rows.{mem_of_map, row_ids_length}
use Rattle.walk.proofs.Named.{fits}
use Rattle.walk.proofs.Files.{store_parents_length}
use Rattle.walk.proofs.Whole.{accepted, open_fresh, length_list}
use Rattle.walk.proofs.Enough.{kids_named}
use Rattle.walk.proofs.Fuel.{fresh-none}
use Rattle.walk.proofs.Universe.{Named, universe_length, hidden_in, kid_in, open_named}
use Rattle.walk.proofs.Outside.{length_ids}
use Rattle.walk.proofs.Tips.{open_accepted}

-- ---- one mark

-- x, readable, gets the marks m and is queued
pub record Given (w : World) (m : Marks) (x : Id) (st st' : Paint) : Type 0 where
  pub parents : List Id
  pub pair : Pair
  pub reads : read w x ≡ good parents pair
  pub vis-is : st'.vis ≡ also m.v st.vis x
  pub hid-is : st'.hid ≡ also m.h st.hid x
  pub stale-is : st'.stale ≡ also m.s st.stale x
  pub joins : st'.pending ≡ add_pending pair x st.pending

pub mark-given : (w : World) (m : Marks) (x : Id) (st st' : Paint) → mark w m x st ≡ going st' → Given w m x st st'
unfolding mark mark_read
mark-given w m x st st' e = go (read w x) refl e
  where
    given_in : {a b : Paint} → going a ≡ going b → a ≡ b
    given_in k = cc

    go : (r : Read) → read w x ≡ r → mark_read m x st r ≡ going st' → Given w m x st st'
    go (fail n) k f = let z : ◌≡◌ {A = ℕ} 0 1 = cc in absurd (omega arith)
    go (good ps p) k f =
        let j = given_in f in
        record {
          parents = ps;
          pair = p;
          reads = k;
          vis-is = ap (λ (s : Paint). s.vis) (sym j);
          hid-is = ap (λ (s : Paint). s.hid) (sym j);
          stale-is = ap (λ (s : Paint). s.stale) (sym j);
          joins = ap (λ (s : Paint). s.pending) (sym j);
        }

module _ {w : World} {m : Marks} {x : Id} {st st' : Paint} (g : Given w m x st st') where
  pub longer : length st'.pending ≡ suc (length st.pending)
  longer = ap length g.joins ∙ length_add_pending g.pair x st.pending

  vis-kept : (y : Id) → st.vis y ≡ true → st'.vis y ≡ true
  vis-kept y e = ap (λ (f : Id → Bool). f y) g.vis-is ∙ also-keeps m.v st.vis x y e

  hid-kept : (y : Id) → st.hid y ≡ true → st'.hid y ≡ true
  hid-kept y e = ap (λ (f : Id → Bool). f y) g.hid-is ∙ also-keeps m.h st.hid x y e

  vis-given : m.v ≡ true → st'.vis x ≡ true
  vis-given e = ap (λ (f : Id → Bool). f x) g.vis-is ∙ also_self m.v st.vis x e

  hid-given : m.h ≡ true → st'.hid x ≡ true
  hid-given e = ap (λ (f : Id → Bool). f x) g.hid-is ∙ also_self m.h st.hid x e

-- ---- the two lists

-- every id of the list has one of the first two marks
abbrev Tagged : List Id → Paint → Type 0
Tagged us st = (u : Id) → Mem u us → (st.vis u ≡ true) ⊎ (st.hid u ≡ true)

two_left : (a b c : Bool) → (a ≡ true) ⊎ (b ≡ true) → lack a + lack b + lack c ≤ 2
two_left true true true o = omega arith
two_left true true false o = omega arith
two_left true false true o = omega arith
two_left true false false o = omega arith
two_left false true true o = omega arith
two_left false true false o = omega arith
two_left false false c (inl e) = clash e refl
two_left false false c (inr e) = clash e refl

total_two : (st : Paint) (us : List Id) → Tagged us st → total st us ≤ 2 * length us
unfolding total missing
total_two st [] t = omega arith
total_two st (u ∷ us) t =
    omega (arith, two_left (st.vis u) (st.hid u) (st.stale u) (t u (Memᴰ.head refl)), total_two st us (λ y k. t y (Memᴰ.tail k)))

tagged_on : {w : World} {m : Marks} {x : Id} {st st' : Paint} (us : List Id) → Given w m x st st' → (m.v ≡ true) ⊎ (m.h ≡ true) → Tagged us st → Tagged (x ∷ us) st'
tagged_on {st' = st'} us g o t y k =
    ⊎_elim
    (λ e. rw e (⊎_elim (λ a. inl (vis-given g a)) (λ a. inr (hid-given g a)) o))
    (λ j. ⊎_elim (λ a. inl (vis-kept g y a)) (λ a. inr (hid-kept g y a)) (t y j))
    (Memᴰ.cases_cons k)

total_append : (st : Paint) (us vs : List Id) → total st (us ++ vs) ≡ total st us + total st vs
unfolding total
total_append st [] vs = omega arith
total_append st (u ∷ us) vs = omega (arith, total_append st us vs)

module _ (w : World) (waiting hidden rest : List Id) (in_rest : (x p : Id) → Mem p (kids w x) → Mem p rest) where
  -- what was queued so far has a mark for each time
  record Listing (n : ℕ) (xs : List Id) (st : Paint) : Type 0 where
    done : List Id
    tagged : Tagged done st
    as_long : length st.pending ≡ length done
    all_of : length done + length xs ≡ n

  -- turns, queue and missing marks
  record Looping (k : ℕ) (xs : List Id) (st : Paint) : Type 0 where
    places : List Id
    few : length places ≡ length waiting + length hidden + length rest
    rest_in : (x : Id) → Mem x rest → Mem x places
    lighter : k + weight places st ≤ 3 * length places
    due_in : (x : Id) → Mem x xs → Mem x rest

  listing-on : {n : ℕ} {m : Marks} {x : Id} {xs : List Id} {st st' : Paint} → (m.v ≡ true) ⊎ (m.h ≡ true) → Given w m x st st' → Listing n (x ∷ xs) st → Listing n xs st'
  listing-on {x = x} o g l = record {
    done = x ∷ l.done;
    tagged = tagged_on l.done g o l.tagged;
    as_long = longer g ∙ ap suc l.as_long;
    all_of = omega (arith, l.all_of);
  }

  -- the turns begin
  looping-first : {st : Paint} → Listing (length waiting + length hidden) [] st → Looping 0 [] st
  unfolding weight
  looping-first {st} l = record {
    places = l.done ++ rest;
    few = omega (arith, length-append l.done rest, l.all_of);
    rest_in = λ x m. Memᴰ.append_right l.done m;
    lighter = omega (arith, l.as_long, total_append st l.done rest, total_two st l.done l.tagged, total_bound st rest, length-append l.done rest);
    due_in = λ x m. absurd (Memᴰ.not-nil m);
  }

  pass-one : (m : Marks) (x : Id) (st st' : Paint) → lacks m x st ≡ true → mark w m x st ≡ going st' → pass w m (x ∷ []) st ≡ going st'
  unfolding pass then
  pass-one m x st st' l e = rw (l, e)

  looping-taken : {k : ℕ} {st : Paint} {q : Pair × Id} {qs : List (Pair × Id)} → st.pending ≡ q ∷ qs → Looping k [] st → Looping (suc k) (kids w q.1) (with_pending qs st)
  unfolding weight with_pending
  looping-taken {st = st} {q = q} {qs = qs} e l = record {
    places = l.places;
    few = l.few;
    rest_in = l.rest_in;
    lighter = omega (arith, ap length e, total-pending st qs l.places, l.lighter);
    due_in = λ x m. in_rest q.1 x m;
  }

  looping-skipped : {k : ℕ} {x : Id} {xs : List Id} {st : Paint} → Looping k (x ∷ xs) st → Looping k xs st
  looping-skipped l = record { places = l.places; few = l.few; rest_in = l.rest_in; lighter = l.lighter; due_in = λ y m. l.due_in y (Memᴰ.tail m) }

  looping-given : {k : ℕ} (m : Marks) {x : Id} {xs : List Id} {st st' : Paint} → lacks m x st ≡ true → mark w m x st ≡ going st' → Looping k (x ∷ xs) st → Looping k xs st'
  looping-given {k} m {x} {xs} {st} {st'} h e l =
      let here : (y : Id) → Mem y (x ∷ []) → Mem y l.places =
      λ y j. ⊎_elim (λ q. rw q (l.rest_in x (l.due_in x (Memᴰ.head refl)))) (λ q. absurd (Memᴰ.not-nil q)) (Memᴰ.cases_cons j) in
      record {
        places = l.places;
        few = l.few;
        rest_in = l.rest_in;
        lighter = omega (arith, pass_weight w l.places m (x ∷ []) st st' here (pass-one m x st st' h e), l.lighter);
        due_in = λ y j. l.due_in y (Memᴰ.tail j);
      }

  abbrev Kept : ℕ → Phase → Paint → Type 0
  Kept k (showing xs) st = (k ≡ 0) × Listing (length waiting) xs st
  Kept k (hiding xs) st = (k ≡ 0) × Listing (length waiting + length hidden) xs st
  Kept k turning st = Looping k [] st
  Kept k (passing m xs) st = Looping k xs st

  comes-kept : {k : ℕ} {ph : Phase} {st : Paint} → Comes w waiting hidden k ph st → Kept k ph st
  comes-kept at_first = (refl, record { done = []; tagged = λ u m. absurd (Memᴰ.not-nil m); as_long = refl; all_of = omega (arith, length_sorted waiting) })
  comes-kept (shows {x = x} {st = st} {st' = st'} c e) = (refl, listing-on (inl refl) (mark-given w VISIBLE x st st' e) (comes-kept c).1)
  comes-kept (all_shown c) =
      let l = (comes-kept c).1 in
      (refl, record { done = l.done; tagged = l.tagged; as_long = l.as_long; all_of = omega (arith, l.all_of) })
  comes-kept (hides {x = x} {st = st} {st' = st'} c e) = (refl, listing-on (inr refl) (mark-given w HIDDEN x st st' e) (comes-kept c).1)
  comes-kept (all-hidden c) = looping-first (comes-kept c).1
  comes-kept (takes c f e) = looping-taken e (comes-kept c)
  comes-kept (skips c l) = looping-skipped (comes-kept c)
  comes-kept (gives {m = m} c l e) = looping-given m l e (comes-kept c)
  comes-kept (all-passed c) = comes-kept c

  -- while the lists are marked, every id has been queued once
  pub showing-length : {k : ℕ} {xs : List Id} {st : Paint} → Comes w waiting hidden k (showing xs) st → length st.pending + length xs ≡ length waiting
  showing-length c = let l = (comes-kept c).1 in omega (arith, l.as_long, l.all_of)

  pub hiding-length : {k : ℕ} {xs : List Id} {st : Paint} → Comes w waiting hidden k (hiding xs) st → length st.pending + length xs ≡ length waiting + length hidden
  hiding-length c = let l = (comes-kept c).1 in omega (arith, l.as_long, l.all_of)

  -- the turns so far and the queue
  pub loop-bound : {k : ℕ} (ph : Phase) {st : Paint} → Comes w waiting hidden k ph st → k + length st.pending ≤ 3 * (length waiting + length hidden + length rest)
  unfolding weight
  loop-bound (showing xs) c = omega (arith, (comes-kept c).0, showing-length c)
  loop-bound (hiding xs) c = omega (arith, (comes-kept c).0, hiding-length c)
  loop-bound turning c = let l = comes-kept c in omega (arith, l.lighter, l.few)
  loop-bound (passing m xs) c = let l = comes-kept c in omega (arith, l.lighter, l.few)

-- ---- the ids

-- the marks and the queue are on ids of us
pub record Inside (us : List Id) (st : Paint) : Type 0 where
  pub vis_in : (x : Id) → st.vis x ≡ true → Mem x us
  pub hid_in : (x : Id) → st.hid x ≡ true → Mem x us
  pub stale_in : (x : Id) → st.stale x ≡ true → Mem x us
  pub entry_in : (e : Pair × Id) → Mem e st.pending → Mem e.1 us

also_in : (us : List Id) (b : Bool) (f g : Id → Bool) (x : Id) → g ≡ also b f x → Mem x us → ((y : Id) → f y ≡ true → Mem y us) → (y : Id) → g y ≡ true → Mem y us
also_in us b f g x e m i y k =
    ⊎_elim (i y) (λ o. subst (λ (z : Id). Mem z us) (sym o.1) m) (also-cases b f x y (sym (ap (λ (h : Id → Bool). h y) e) ∙ k))

pub given_inside : {w : World} {m : Marks} {x : Id} {st st' : Paint} (us : List Id) → Given w m x st st' → Mem x us → Inside us st → Inside us st'
given_inside {m = m} {x = x} {st = st} {st' = st'} us g i o = record {
  vis_in = also_in us m.v st.vis st'.vis x g.vis-is i o.vis_in;
  hid_in = also_in us m.h st.hid st'.hid x g.hid-is i o.hid_in;
  stale_in = also_in us m.s st.stale st'.stale x g.stale-is i o.stale_in;
  entry_in = λ e k. ⊎_elim (λ j. subst (λ (t : Pair × Id). Mem t.1 us) (sym j) i) (o.entry_in e)
      (add_pending-cases g.pair x st.pending e (subst (λ (q : List (Pair × Id)). Mem e q) g.joins k));
}

module _ (w : World) (waiting hidden us : List Id) (in-waiting : (x : Id) → Mem x waiting → Mem x us) (in-hidden : (x : Id) → Mem x hidden → Mem x us)
    (in-kids : (x p : Id) → Mem p (kids w x) → Mem p us) where
  pub comes-inside : {k : ℕ} {ph : Phase} {st : Paint} → Comes w waiting hidden k ph st → Inside us st × ((x : Id) → Mem x (due ph) → Mem x us)
  unfolding due with_pending
  comes-inside at_first = (
    record { vis_in = λ x k. clash k refl; hid_in = λ x k. clash k refl; stale_in = λ x k. clash k refl; entry_in = λ e k. absurd (Memᴰ.not-nil k) },
    (λ x m. in-waiting x (sorted-out waiting x m)),
  )
  comes-inside (shows {x = x} {st = st} {st' = st'} c e) =
      let r = comes-inside c in
      (given_inside us (mark-given w VISIBLE x st st' e) (r.1 x (Memᴰ.head refl)) r.0, (λ y m. r.1 y (Memᴰ.tail m)))
  comes-inside (all_shown c) = ((comes-inside c).0, in-hidden)
  comes-inside (hides {x = x} {st = st} {st' = st'} c e) =
      let r = comes-inside c in
      (given_inside us (mark-given w HIDDEN x st st' e) (r.1 x (Memᴰ.head refl)) r.0, (λ y m. r.1 y (Memᴰ.tail m)))
  comes-inside (all-hidden c) = comes-inside c
  comes-inside (takes {q = q} c f e) =
      let r = (comes-inside c).0 in (
        record {
          vis_in = r.vis_in;
          hid_in = r.hid_in;
          stale_in = r.stale_in;
          entry_in = λ t k. r.entry_in t (subst (λ (l : List (Pair × Id)). Mem t l) (sym e) (Memᴰ.tail k));
        },
        in-kids q.1,
      )
  comes-inside (skips c l) = let r = comes-inside c in (r.0, (λ y m. r.1 y (Memᴰ.tail m)))
  comes-inside (gives {m = m} {x = x} {st = st} {st' = st'} c l e) =
      let r = comes-inside c in
      (given_inside us (mark-given w m x st st' e) (r.1 x (Memᴰ.head refl)) r.0, (λ y k. r.1 y (Memᴰ.tail k)))
  comes-inside (all-passed c) = comes-inside c

-- ---- painting goes through these states

-- a painting that goes on to the end
pub then-going : (r : Painting) (f : Paint → Painting) (st : Paint) → then r f ≡ going st → (st₁ : Paint) × (r ≡ going st₁) × (f st₁ ≡ going st)
unfolding then
then-going (stop n) f st e = let z : ◌≡◌ {A = ℕ} 0 1 = cc in absurd (omega arith)
then-going (going st₁) f st e = (st₁, refl, e)

going_in : {a b : Paint} → going a ≡ going b → a ≡ b
going_in e = cc

module _ (w : World) (waiting hidden : List Id) where
  abbrev C : ℕ → Phase → Paint → Type 0
  C k ph st = Comes w waiting hidden k ph st

  shown : (xs : List Id) (st st' : Paint) → C 0 (showing xs) st → mark_all w VISIBLE xs st ≡ going st' → C 0 (showing []) st'
  unfolding mark_all
  shown [] st st' c e = subst (C 0 (showing [])) (going_in e) c
  shown (x ∷ xs) st st' c e = let t = then-going (mark w VISIBLE x st) _ st' e in shown xs t.0 st' (shows c t.1) t.2

  hid : (xs : List Id) (st st' : Paint) → C 0 (hiding xs) st → mark_all w HIDDEN xs st ≡ going st' → C 0 (hiding []) st'
  unfolding mark_all
  hid [] st st' c e = subst (C 0 (hiding [])) (going_in e) c
  hid (x ∷ xs) st st' c e = let t = then-going (mark w HIDDEN x st) _ st' e in hid xs t.0 st' (hides c t.1) t.2

  passes : (n : ℕ) (m : Marks) (xs : List Id) (st st' : Paint) → C n (passing m xs) st → pass w m xs st ≡ going st' → C n (passing m []) st'
  unfolding pass
  passes n m [] st st' c e = subst (C n (passing m [])) (going_in e) c
  passes n m (x ∷ xs) st st' c e =
      by_cases (lacks m x st)
      (λ h. let t = then-going (mark w m x st) _ st' (rw h at e) in passes n m xs t.0 st' (gives c h t.1) t.2)
      (λ h. passes n m xs st st' (skips c h) (rw h at e))

  turn-comes : (n : ℕ) (st st' : Paint) (q : List (Pair × Id)) → st.pending ≡ q → fresh st.stale st.pending ≡ true → C n turning st → turn w st q ≡ going st' → C (suc n) turning st'
  unfolding turn fresh
  turn-comes n st st' [] is h c e = clash (sym (ap (fresh st.stale) is) ∙ h) refl
  turn-comes n st st' (q ∷ qs) is h c e = all-passed (passes (suc n) (passed st q.1) (kids w q.1) (with_pending qs st) st' (takes c h is) e)

  turns-come : (k n : ℕ) (st st' : Paint) → C n turning st → turns w k st ≡ going st' → (n' : ℕ) × C n' turning st'
  unfolding turns
  turns-come zero n st st' c e = (n, subst (C n turning) (going_in e) c)
  turns-come (suc k) n st st' c e =
      by_cases (fresh st.stale st.pending)
      (λ h. let t = then-going (turn w st st.pending) _ st' (rw h at e) in turns-come k (suc n) t.0 st' (turn-comes n st t.0 st.pending refl h c t.1) t.2)
      (λ h. (n, subst (C n turning) (going_in (rw h at e)) c))

  -- both lists are marked
  lists-come : (st₁ st₂ : Paint) → mark_all w VISIBLE (sorted waiting) unpainted ≡ going st₁ → mark_all w HIDDEN hidden st₁ ≡ going st₂ → C 0 turning st₂
  lists-come st₁ st₂ e₁ e₂ = all-hidden (hid hidden st₁ st₂ (all_shown (shown (sorted waiting) unpainted st₁ at_first e₁)) e₂)

  -- what painting comes out with is such a state
  pub paint-comes : (k : ℕ) (st : Paint) → paint w k waiting hidden ≡ going st → (n : ℕ) × Comes w waiting hidden n turning st
  unfolding paint
  paint-comes k st e =
      let a = then-going (mark_all w VISIBLE (sorted waiting) unpainted) _ st e in
      let b = then-going (mark_all w HIDDEN hidden a.0) _ st a.2 in
      turns-come k 0 b.0 st (lists-come a.0 b.0 a.1 b.1) b.2

-- ---- more turns than the weight change nothing

module _ (w : World) (us : List Id) (within : (x p : Id) → Mem p (kids w x) → Mem p us) where
  no-turn : (m : ℕ) (st : Paint) → fresh st.stale st.pending ≡ false → turns w m st ≡ going st
  unfolding turns
  no-turn zero st h = refl
  no-turn (suc m) st h = rw h

  light : (st : Paint) → weight us st ≤ 0 → fresh st.stale st.pending ≡ false
  unfolding weight
  light st l = fresh-none st.stale st.pending (omega arith)

  same_turn : (k m : ℕ) (st : Paint) → ((st' : Paint) → weight us st' ≤ k → weight us st' ≤ m → turns w k st' ≡ turns w m st') → weight us st ≤ suc k → weight us st ≤ suc m
      → (q : List (Pair × Id)) → st.pending ≡ q → fresh st.stale q ≡ true → (r : Painting) → turn w st q ≡ r → then r (λ st'. turns w k st') ≡ then r (λ st'. turns w m st')
  unfolding fresh then
  same_turn k m st rec a b [] is h r e = clash h refl
  same_turn k m st rec a b (q ∷ qs) is h (stop n) e = refl
  same_turn k m st rec a b (q ∷ qs) is h (going st') e =
      let l : weight us st' < weight us st = turn_weight w us st st' q qs is (λ x j. within q.1 x j) e in
      rec st' (omega arith) (omega arith)

  pub turns_same : (k m : ℕ) (st : Paint) → weight us st ≤ k → weight us st ≤ m → turns w k st ≡ turns w m st
  unfolding turns
  turns_same zero m st a b = sym (no-turn m st (light st a))
  turns_same (suc k) zero st a b = no-turn (suc k) st (light st b)
  turns_same (suc k) (suc m) st a b =
      by_cases (fresh st.stale st.pending)
      (λ h. rw h (same_turn k m st (λ st' c d. turns_same k m st' c d) a b st.pending refl h (turn w st st.pending) refl))
      (λ h. rw h)

module _ (w : World) (waiting hidden rest : List Id) (in_rest : (x p : Id) → Mem p (kids w x) → Mem p rest) where
  -- painting with any number of turns that is not below the bound is the same painting
  pub paint-same : (k m : ℕ) → 3 * (length waiting + length hidden + length rest) ≤ k → 3 * (length waiting + length hidden + length rest) ≤ m
      → paint w k waiting hidden ≡ paint w m waiting hidden
  unfolding paint then
  paint-same k m a b = first (mark_all w VISIBLE (sorted waiting) unpainted) refl
    where
      turn-both : (st : Paint) → Comes w waiting hidden 0 turning st → turns w k st ≡ turns w m st
      turn-both st c =
          let l = comes-kept w waiting hidden rest in_rest c in
          turns_same w l.places (λ x p j. l.rest_in p (in_rest x p j)) k m st (omega (arith, l.lighter, l.few)) (omega (arith, l.lighter, l.few))

      second : (st₁ : Paint) → mark_all w VISIBLE (sorted waiting) unpainted ≡ going st₁ → (r : Painting) → mark_all w HIDDEN hidden st₁ ≡ r → then r (λ st. turns w k st) ≡ then r (λ st. turns w m st)
      second st₁ e₁ (stop n) e₂ = refl
      second st₁ e₁ (going st₂) e₂ = turn-both st₂ (lists-come w waiting hidden st₁ st₂ e₁ e₂)

      first : (r : Painting) → mark_all w VISIBLE (sorted waiting) unpainted ≡ r
          → then r (λ st. then (mark_all w HIDDEN hidden st) (λ st'. turns w k st')) ≡ then r (λ st. then (mark_all w HIDDEN hidden st) (λ st'. turns w m st'))
      first (stop n) e₁ = refl
      first (going st₁) e₁ = second st₁ e₁ (mark_all w HIDDEN hidden st₁) refl

-- ---- of an input

lists-short : (i : Input) (st : State) → open_walk i true ≡ opened st → length (ids st.queue) + length (walk_of i).hidden + length (names i) ≤ P i
unfolding walk_of P
lists-short i st e =
    let f = open_fresh i st e in
    let a = accepted i (open_accepted i st e) in
    omega (
      arith,
      f.short,
      length-append (store_parents (width_in i) i.store) (row_ids (width_in i) i.graph (graph_count i.graph)),
      row_ids_length (width_in i) i.graph (graph_count i.graph),
      store_parents_length (width_in i) i.store a.store_ok,
      length_list (width_in i) i.tips,
      length_list (width_in i) i.hidden,
      length_ids st.queue,
    )

-- what memory holds in painting lies in the universe
pub touched_in : (i : Input) (st : State) → open_walk i true ≡ opened st → (k : ℕ) (ph : Phase) (p : Paint) → PaintingOf i st k ph p → (x : Id) → Touched st ph p x → Mem x (universe i)
unfolding PaintingOf
touched_in i st e k ph p c x t = go t
  where
    named : Named (universe i) st
    named = open_named i st e

    inside : Inside (universe i) p × ((y : Id) → Mem y (due ph) → Mem y (universe i))
    inside = comes-inside (walk_of i).world (ids st.queue) (walk_of i).hidden (universe i) named.queue_in (hidden_in i) (kid_in i) c

    go : Touched st ph p x → Mem x (universe i)
    go (is_seen k) = named.seen_in x k
    go (is-visible k) = inside.0.vis_in x k
    go (is_hidden k) = inside.0.hid_in x k
    go (is-stale k) = inside.0.stale_in x k
    go (is-queued k) =
        let r = mem_of_map (λ (t : Pair × Id). t.1) p.pending x k in
        subst (λ (y : Id). Mem y (universe i)) (sym r.2) (inside.0.entry_in r.0 r.1)
    go (is-due k) = inside.1 x k

pub painting_fits : (i : Input) → PaintingFits i
unfolding PaintingFits PaintingOf
painting_fits i st e k ph p c = record {
  loop_fits = omega (arith, loop-bound (walk_of i).world (ids st.queue) (walk_of i).hidden (names i) (kids_named i) ph c, lists-short i st e);
  names-fit = λ l d t. omega (arith, fits l (universe i) d (λ x m. touched_in i st e k ph p c x (t x m)), universe_length i (open_accepted i st e));
}

-- while the lists are marked: what is queued and what is still to be marked are the lists, and these are within P
pub showing_fits : (i : Input) (st : State) → open_walk i true ≡ opened st → (k : ℕ) (xs : List Id) (p : Paint) → PaintingOf i st k (showing xs) p
    → (length p.pending + length xs ≡ length st.queue) × (length st.queue ≤ P i)
unfolding PaintingOf
showing_fits i st e k xs p c = (
  showing-length (walk_of i).world (ids st.queue) (walk_of i).hidden (names i) (kids_named i) c ∙ length_ids st.queue,
  omega (arith, lists-short i st e, length_ids st.queue),
)

pub hiding-fits : (i : Input) (st : State) → open_walk i true ≡ opened st → (k : ℕ) (xs : List Id) (p : Paint) → PaintingOf i st k (hiding xs) p
    → (length p.pending + length xs ≡ length st.queue + length (walk_of i).hidden) × (length st.queue + length (walk_of i).hidden ≤ P i)
unfolding PaintingOf
hiding-fits i st e k xs p c = (
  hiding-length (walk_of i).world (ids st.queue) (walk_of i).hidden (names i) (kids_named i) c ∙ ap (λ (n : ℕ). n + length (walk_of i).hidden) (length_ids st.queue),
  omega (arith, lists-short i st e, length_ids st.queue),
)

fuel-is : (i : Input) → (walk_of i).fuel ≡ 4 * P i
unfolding walk_of
fuel-is i = refl

-- 3 P turns suffice: with any number of turns from there on painting is the walk's painting
pub painting_turns : (i : Input) (st : State) → open_walk i true ≡ opened st → (k : ℕ) → 3 * P i ≤ k
    → paint (walk_of i).world k (ids st.queue) (walk_of i).hidden ≡ paint (walk_of i).world (walk_of i).fuel (ids st.queue) (walk_of i).hidden
painting_turns i st e k l =
    let s = lists-short i st e in
    let m : (walk_of i).fuel ≡ 4 * P i = fuel-is i in
    paint-same (walk_of i).world (ids st.queue) (walk_of i).hidden (names i) (kids_named i) k (walk_of i).fuel (omega arith) (omega (arith, m))
