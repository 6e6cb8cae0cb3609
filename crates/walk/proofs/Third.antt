-- The third demand on the model. Where nothing is painted, nothing is hidden or nothing waits. Else what is reached over admitted links
-- outside the frontier is what is reached over admitted links and from no hidden tip: the frontier is hidden, and what is reached before it is
-- not. The walk hands out the first, each once.
-- Assumes nothing.
use Rattle.std.specs.Prelude.{None, Some}
use mathlib.Core.Path.{◌≡◌, refl, sym, ◌∙◌, ap, subst}
use mathlib.Core.Logic.{inl, inr, ⊎_elim, ◌↔◌}
use Prim.Native.Nat.{ℕ, ◌+◌, ◌*◌, ◌≤◌}
use mathlib.Core.Bool.{Bool, true, false, ◌&&◌, ◌||◌}
use mathlib.Core.List.Memᴰ
use mathlib.Core.List.{List, [], ◌∷◌, map}
use native.Mathlib.Omega.{arith}
use lib.ListN.{length}
use lib.IntN.{ℤ}
use Rattle.hash.specs.Bytes.{Id, among, if_some}
use Rattle.walk.proofs.Painting.{read_pair}
use Rattle.hash.proofs.Tests.{by_cases, clash, not_yes, or_cases}
use Rattle.walk.proofs.Laws.{Coherent}
use Rattle.walk.specs.Lookup.{World, Row, no_row, row, corrupt, good, read, read_row, from_store, parents_of, Pair, lt_pair, store_seconds, seconds_for}
use Rattle.walk.specs.State.{Walk, State, ids, nobody, empty_state, is_empty}
use Rattle.walk.specs.Opening.{distinct, opened, tips_in}
use Rattle.walk.specs.Painting.{Paint, going, paint}
use Rattle.walk.specs.Next.{Answer, outside, painted_with, take_next, next}
use Rattle.walk.specs.Calls.{calls}
use Rattle.walk.specs.Reach.{Mem, NoDup, links, Reaches, itself, through}
use Rattle.walk.specs.Demand.{Readable, Region, Hidden, tipStays, AdmittedTip, Admitted, Listed, Premises, pair_at, row_generation, Hands}
use Rattle.walk.proofs.Painting.{kids, pair, Good, Down, at_once, by}
use Rattle.walk.proofs.Painted.{Painted, paint-done}
use Rattle.walk.proofs.Queue.{Away, Walked}
use Rattle.walk.proofs.Take.{header_at, reach_on, region-on, region-tip, region-hidden, away-region, followed_sub}
use Rattle.walk.proofs.Outside.{outside-out, outside_in, outside-once, outside_length, outside-nobody, length_ids}
use Rattle.walk.proofs.Visits.{unseen_bound, left}
use Rattle.walk.proofs.Moves.{next-first, first_plain, first-paint, same-calls}
use Rattle.walk.proofs.Run.{run}
use Rattle.walk.proofs.Open.{Entered, tips-opened, distinct-out, distinct-in, distinct-once, distinct-length}
use Rattle.walk.proofs.Visits.{left}

among_nil : (x : Id) → among x [] ≡ false
unfolding among
among_nil x = refl

module _ (v : Walk) (tips : List Id) (pre : Premises v tips) (coherent : Coherent v.world) where
  abbrev w : World
  w = v.world

  abbrev R : Id → Type 0
  R = Region v tips

  abbrev H : Id → Type 0
  H = Hidden v tips

  -- in the region painting reads what the store says
  reads-row : (x : Id) → R x → (r : Row) → w.graph x ≡ r
      → ((ps : List Id) × (p : Pair) × (read_row w x r ≡ good ps p)) × (parents_of (read_row w x r) ≡ links w x)
  unfolding Readable links parents_of read_row
  reads-row x r no_row e = (pre.readable x r, refl)
  reads-row x r corrupt e = absurd ((pre.agrees x r).whole e)
  reads-row x r (row ps l s) e = ((map (λ p. p.0) ps, record { generation = l; time = s }, refl), (pre.agrees x r).same-parents ps l s e)

  pub good-at : (x : Id) → R x → Good w x
  unfolding Good read
  good-at x r = (reads-row x r (w.graph x) refl).0

  pub kids-are : (x : Id) → R x → kids w x ≡ links w x
  unfolding read
  kids-are x r = (reads-row x r (w.graph x) refl).1

  pub closed-R : (x p : Id) → R x → Mem p (kids w x) → R p
  closed-R x p r m = region-on v tips pre coherent x p r (rw (kids-are x r) at m)

  -- and goes by the pair of the demand
  pair_row : (x : Id) → R x → (r : Row) → w.graph x ≡ r → read_pair (read_row w x r) ≡ record { generation = row_generation r; time = seconds_for w x }
  unfolding read_row read_pair row_generation seconds_for store_seconds from_store
  pair_row x r no_row e =
      let h = header_at v tips pre coherent x r in
      let s = h.2.has-seconds in
      rw (h.1, h.2.tree-ok, h.2.not-crowded, h.2.author-ok, s.1)
  pair_row x r corrupt e = absurd ((pre.agrees x r).whole e)
  pair_row x r (row ps l s) e = let k : if_some (w.store x) None (λ h. h.seconds) ≡ Some s = (pre.agrees x r).same-seconds ps l s e in rw k

  pair-at : (x : Id) → R x → pair w x ≡ pair_at w x
  unfolding read pair_at
  pair-at x r = pair_row x r (w.graph x) refl

  pub falls-R : (x p : Id) → R x → Mem p (kids w x) → lt_pair (pair w p) (pair w x) ≡ true
  falls-R x p r m = rw (pair-at p (closed-R x p r m), pair-at x r) (pre.falls x p r (rw (kids-are x r) at m))

  pub down-R : (x p : Id) → R x → H x → Mem p (kids w x) → H p
  unfolding Hidden
  down-R x p r h m = (h.0, h.1, reach_on w x p h.0 h.2 (rw (kids-are x r) at m))

  reach-down : (x z : Id) → R z → Reaches w x z → Down w x z
  reach-down x z r (itself e) = at_once e
  reach-down x z r (through {p = p} m t) =
      let m' : Mem p (kids w z) = rw (kids-are z r) m in
      by m' (reach-down x p (region-on v tips pre coherent z p r m) t)

  pub hidden-on : (x p : Id) → H x → Mem p (links w x) → H p
  unfolding Hidden
  hidden-on x p h m = (h.0, h.1, reach_on w x p h.0 h.2 m)

  module _ (us : List Id) (within : (x p : Id) → R x → Mem p (links w x) → Mem p us) where
    pub within-kids : (x p : Id) → R x → Mem p (kids w x) → Mem p us
    within-kids x p r m = within x p r (rw (kids-are x r) at m)

    -- ---- the state that the first call paints

    module _ (st : State) (done : List Id) (i : Entered v tips st done)
        (of-tips : (x : Id) → Mem x done → Mem x tips × (among x v.excluded ≡ false))
        (all-tips : (x : Id) → Mem x tips → among x v.excluded ≡ false → Mem x done) where
      pub queue-tip : (x : Id) → Mem x (ids st.queue) → AdmittedTip v tips x
      queue-tip x k =
          let a = i.in-queue x k in
          let b = of-tips x a.0 in
          record { lent = b.0; not-excluded = b.1; stays = a.1 }

      pub tip-queue : (x : Id) → AdmittedTip v tips x → Mem x (ids st.queue)
      tip-queue x a = i.stays-in x (all-tips x a.lent a.not-excluded) a.stays

      -- what the frontier has to be
      pub record Parts (front : Id → Bool) : Type 0 where
        pub apart : (x : Id) → Away v tips front x → H x → ⊥
        pub hidden-only : (x : Id) → front x ≡ true → Admitted v tips x → H x

      pub away-listed : (front : Id → Bool) → Parts front → (x : Id) → Away v tips front x ↔ Listed v tips x
      unfolding Listed
      away-listed front f x = (λ a. (admitted x a, f.apart x a), λ l. away x l.0 l.1)
        where
          admitted : (y : Id) → Away v tips front y → Admitted v tips y
          admitted y (Away.tip a o) = Admitted.tip a
          admitted y (Away.link {x = z} b a o) = Admitted.link (admitted z b) a

          out : (y : Id) → Admitted v tips y → (H y → ⊥) → front y ≡ false
          out y a n = not_yes (λ e. n (f.hidden-only y e a))

          away : (y : Id) → Admitted v tips y → (H y → ⊥) → Away v tips front y
          away y (Admitted.tip a) n = Away.tip a (out y (Admitted.tip a) n)
          away y (Admitted.link {x = z} b a) n =
              Away.link (away z b (λ h. n (hidden-on z y h (followed_sub v.settings y (links w z) a.follows)))) a (out y (Admitted.link b a) n)

      -- the walk from there
      pub walked : (front : Id → Bool) → Walked v tips front (painted_with st (outside front st.queue) front) []
      unfolding painted_with
      walked front = record {
        is_front = λ x. refl;
        queue-away = λ x k. let r = outside-out front st.queue x k in Away.tip (queue-tip x r.0) r.1;
        queue-once = outside-once front st.queue i.once;
        queue-new = λ x k. absurd (Memᴰ.not-nil k);
        queue-seen = λ x k. i.done-seen x (i.in-queue x (outside-out front st.queue x k).0).0;
        done-seen = λ x k. absurd (Memᴰ.not-nil k);
        seen_in = λ x k a n o.
            let d = i.seen_done x k in
            let t = of-tips x d in
            inr (outside_in front st.queue x (i.stays-in x d (by_cases (tipStays v tips x) (λ e. e) (λ e. absurd (n (record { lent = t.0; not-excluded = t.1; away = e }))))) o);
        tips-seen = λ x a. i.done-seen x (all-tips x a.lent a.not-excluded);
        turned-seen = λ x a. i.done-seen x (all-tips x a.lent a.not-excluded);
      }

      abbrev pub after : (Id → Bool) → State
      after front = painted_with st (outside front st.queue) front

      abbrev pub Listing : Type 0
      Listing = (l : List Id) × NoDup l × ((x : Id) → Mem x l ↔ Listed v tips x) × (length l ≤ length done + length us) × ((k : ℕ) → Hands l (calls v k st))

      pub next-after : (front : Id → Bool) → next v (after front) ≡ take_next v (after front)
      unfolding next painted_with
      next-after front = refl

      listing : (front : Id → Bool) → Parts front → next v st ≡ take_next v (after front) → Listing
      unfolding painted_with left
      listing front f e =
          let le : left us (after front) ≤ length done + length us = omega (arith, outside_length front st.queue, i.no_longer, unseen_bound st.seen us) in
          let r = run v tips pre coherent front us within (length done + length us) (after front) [] le refl (walked front) (λ x k. absurd (Memᴰ.not-nil k)) in
          let al = away-listed front f in (
            r.0,
            r.1,
            (λ x. (λ k. (al x).0 (r.3 x k), λ l. ⊎_elim (λ j. absurd (Memᴰ.not-nil j)) (λ j. j) (r.4 x ((al x).1 l)))),
            r.5,
            (λ k. subst (λ (c : List Answer). Hands r.0 c) (sym (same-calls v st (after front) (e ∙ sym (next-after front)) k)) (r.6 k)),
          )

      -- no painting: nothing is hidden, or nothing waits
      empty-queue : (l : List (Id × ℤ)) → is_empty l ≡ true → (x : Id) → Mem x (ids l) → ⊥
      unfolding is_empty ids
      empty-queue [] e x m = Memᴰ.not-nil m
      empty-queue (y ∷ ys) e x m = clash refl (sym e)

      empty-list : (l : List Id) → is_empty l ≡ true → (x : Id) → Mem x l → ⊥
      unfolding is_empty
      empty-list [] e x m = Memᴰ.not-nil m
      empty-list (y ∷ ys) e x m = clash refl (sym e)

      no-away : (front : Id → Bool) → is_empty st.queue ≡ true → (x : Id) → Away v tips front x → ⊥
      no-away front e x (Away.tip a o) = empty-queue st.queue e x (tip-queue x a)
      no-away front e x (Away.link {x = y} b a o) = no-away front e y b

      pub plain-parts : (is_empty v.hidden || is_empty st.queue) ≡ true → Parts nobody
      unfolding Hidden
      plain-parts e = record {
        apart = λ x a h. ⊎_elim (λ k. empty-list v.hidden k h.0 h.1) (λ k. no-away nobody k x a) (or_cases {a = is_empty v.hidden} {b = is_empty st.queue} e);
        hidden-only = λ x k. clash k refl;
      }

      plain : (is_empty v.hidden || is_empty st.queue) ≡ true → Listing
      plain e = listing nobody (plain-parts e)
          (next-first v st i.not-painted ∙ first_plain v st e ∙ ap (λ (l : List (Id × ℤ)). take_next v (painted_with st l nobody)) (sym (outside-nobody st.queue)))

      -- painting
      module _ (enough : 3 * length us + length (ids st.queue) + length v.hidden ≤ v.fuel) where
        pub waiting-R : (x : Id) → Mem x (ids st.queue) → R x
        waiting-R x k = region-tip v tips pre coherent x (queue-tip x k).lent

        pub hidden-R : (x : Id) → Mem x v.hidden → R x × H x
        unfolding Hidden
        hidden-R x k = (region-hidden v tips pre coherent x k, (x, k, itself refl))

        pub done-paint : (pst : Paint) × (paint w v.fuel (ids st.queue) v.hidden ≡ going pst)
            × Painted w R H good-at closed-R falls-R down-R us within-kids (ids st.queue) v.hidden waiting-R hidden-R pst
        done-paint = paint-done w R H good-at closed-R falls-R down-R us within-kids (ids st.queue) v.hidden waiting-R hidden-R v.fuel enough

        abbrev pub front : Id → Bool
        front x = done-paint.0.vis x && done-paint.0.hid x

        away-out : (x : Id) → Away v tips front x → front x ≡ false
        away-out x (Away.tip a o) = o
        away-out x (Away.link b a o) = o

        away-vis : (x : Id) → Away v tips front x → done-paint.0.vis x ≡ true
        away-vis x (Away.tip a o) = done-paint.2.tips x (tip-queue x a)
        away-vis x (Away.link {x = y} b a o) =
            let r : R y = away-region v tips pre coherent front y b in
            let m : Mem x (kids w y) = rw (kids-are y r) (followed_sub v.settings x (links w y) a.follows) in
            done-paint.2.onward y x (away-vis y b) (away-out y b) m

        pub paint-parts : Parts front
        unfolding Hidden
        paint-parts = record {
          apart = λ x a h. done-paint.2.apart x h.0 (away-vis x a) (away-out x a) h.1 (reach-down x h.0 (region-hidden v tips pre coherent h.0 h.1) h.2);
          hidden-only = λ x k a. done-paint.2.hidden-only x k;
        }

        hides : (is_empty v.hidden || is_empty st.queue) ≡ false → Listing
        hides e = listing front paint-parts (next-first v st i.not-painted ∙ first-paint v st done-paint.0 e done-paint.1)

        pub listed : Listing
        listed = by_cases (is_empty v.hidden || is_empty st.queue) plain hides

    -- ---- from an opening

    -- The third demand on the model. `us` has every parent of the region; the turns suffice for it.
    pub record Handed-out : Type 0 where
      pub state : State
      pub accepted : tips_in v (distinct [] v.excluded tips) empty_state ≡ opened state
      pub list : List Id
      pub different : NoDup list
      pub exactly : (x : Id) → Mem x list ↔ Listed v tips x
      pub short : length list ≤ length tips + length us
      pub in_order : (k : ℕ) → Hands list (calls v k state)

    pub third-model : 3 * length us + length tips + length v.hidden ≤ v.fuel → Handed-out
    third-model enough =
        let xs : List Id = distinct [] v.excluded tips in
        let o = tips-opened v tips pre coherent xs (distinct-once v.excluded [] tips) (λ x k. region-tip v tips pre coherent x (distinct-out v.excluded [] tips x k).0) in
        let short : length o.done' ≤ length tips = omega (arith, o.as_long, distinct-length v.excluded [] tips) in
        let r = listed o.state o.done' o.entered
        (λ x k. ⊎_elim (λ j. let t = distinct-out v.excluded [] tips x j in (t.0, t.1)) (λ j. absurd (Memᴰ.not-nil j)) (o.from-lists x k))
        (λ x k b. o.to-done x (inl (distinct-in v.excluded [] tips x k b (among_nil x))))
        (omega (arith, length_ids o.state.queue, o.entered.no_longer)) in
        record {
          state = o.state;
          accepted = o.is;
          list = r.0;
          different = r.1;
          exactly = r.2;
          short = omega (arith, r.3);
          in_order = r.4;
        }
