-- One commit gets marks. In the table the mark of its id changes and no other. Its slot has its pair: it was read before, and is as it
-- was, or is read now. The queue gets the slot where the walk's queue gets the commit, because slots are set against each other as their
-- pairs are. Slots that were queued or read had a mark before, so nothing of theirs changes, nor the
-- order in which the queued ones leave. Assumes nothing.
use mathlib.Core.Path.{◌≡◌, refl, sym, ◌∙◌, ap, subst}
use mathlib.Core.Logic.{⊎_elim}
use Prim.Native.Nat.{ℕ, ◌≤◌, ◌<◌}
use mathlib.Core.Bool.{Bool, true, false, cond, ◌||◌}
use mathlib.Core.List.{List, [], ◌∷◌, map, Memᴰ}
use native.Mathlib.Omega.{arith}
use lib.IntN.{ℤ, pos}
use lib.ListN.{length, take, get_or, length-set, length-map}
use lib.Seq.{get_or-set_same, get_or-set_other}
use Rattle.hash.specs.Bytes.{Id, eq_id}
use Rattle.hash.proofs.Tests.{by_cases, clash}
use Rattle.hash.proofs.Ids.{eq_id_eq, eq_id-same}
use Rattle.hashtable.specs.Marks.{visible, hidden, stale, seen, live}
use Rattle.hashtable.specs.Table.{id_of, live_at, mark_for, Finds}
use Rattle.hashtable.specs.declared.table.Slot.TheVariants.{Full as TableFull}
use Rattle.hashtable.proofs.TableIds.{same?}
use Rattle.hashtable.proofs.TableView.{mark-held}
use Rattle.hashtable.proofs.TableRoom.{within, room}
use Rattle.revwalk.specs.Order.{seconds_of, insert_by, In}
use Rattle.pending.specs.Pending.{level_of, pair_at, ahead, slots_in, Room, Entered}
use Rattle.pending.specs.declared.Pending.{Pending}
use Rattle.pending.proofs.Laws.{few-room, map_agree, insert-map, pushed-all, slots_frame}
use Rattle.walk.specs.Lookup.{World, Pair, lt_pair, fail, good, read}
use Rattle.walk.specs.Painting.{Paint, stop, going, add_pending, also, mark, mark_read}
use Rattle.walk.specs.State.{add}
use Rattle.walk.specs.declared.Refusal.{Refusal}
use Rattle.walk.proofs.Laws.{also-other}
use Rattle.walk.proofs.Fuel.{length_add_pending}
use Rattle.frontier.specs.Bits.{is_painted, marks_of, with_bits}
use Rattle.frontier.specs.Slots.{Gained}
use Rattle.frontier.specs.Paint.{Lent, lent, entry_at, IsKnown, PaintReads, Spares, Named, Goes, Stops}
use Rattle.frontier.specs.Mark.{Paired, MayStep}
use Rattle.frontier.proofs.PaintBits.{visible-withBits, hidden-withBits, stale-withBits, seen-withBits, painted-live, painted-with_bits}

-- ---- nothing changed, and one change after another

pub spares-none : (width : ℕ) (cap base : ℕ) (m : Lent) → Spares width cap base m m
spares-none width cap base m = record { seen_same = λ x. refl; taken = λ s l a. (a, refl); below = refl }

pub spares_then : {width : ℕ} {cap base : ℕ} {a b c : Lent} → Spares width cap base a b → Spares width cap base b c → Spares width cap base a c
spares_then p q = record {
  seen_same = λ x. q.seen_same x ∙ p.seen_same x;
  taken = λ s l a. let h = p.taken s l a in let k = q.taken s l h.0 in (k.0, k.1 ∙ h.1);
  below = q.below ∙ p.below;
}

-- ---- sets of ids

-- x joins a set if b
also-here : (b : Bool) (f : Id → Bool) (x y : Id) → eq_id y x ≡ true → also b f x y ≡ (b || f y)
unfolding also add
also-here true f x y e = rw e
also-here false f x y e = refl

-- ---- an id has gained marks

module _ {width : ℕ} {names marks names' marks' : List ℕ} {cap : ℕ} {x : Id} {bits k : ℕ} (g : Gained width names marks names' marks' cap x bits k) where
  this-mark : (y : Id) → eq_id y x ≡ true → mark_for width false names' marks' cap y ≡ with_bits bits (mark_for width false names marks cap y)
  this-mark y e =
      let q : y ≡ x = eq_id_eq y x e in
      ap (mark_for width false names' marks' cap) q ∙ g.this ∙ ap (λ (z : Id). with_bits bits (mark_for width false names marks cap z)) (sym q)

  other-id : (y : Id) → eq_id y x ≡ false → mark_for width false names' marks' cap y ≡ mark_for width false names marks cap y
  other-id y e = g.other y (λ q. clash (eq_id-same y x q) e)

  -- a bit P: the set of the ids that have it gains x where `bits` has it
  gained-bit : (P : ℕ → Bool) → ((b n : ℕ) → P (with_bits b n) ≡ (P b || P n)) → (f : Id → Bool) → ((y : Id) → f y ≡ P (mark_for width false names marks cap y))
      → (y : Id) → also (P bits) f x y ≡ P (mark_for width false names' marks' cap y)
  gained-bit P law f is y =
      by_cases (eq_id y x)
      (λ e.
      also-here (P bits) f x y e
      ∙ ap (λ (t : Bool). P bits || t) (is y)
      ∙ sym (law bits (mark_for width false names marks cap y))
      ∙ ap P (sym (this-mark y e)))
      (λ e. also-other (P bits) f x y e ∙ is y ∙ ap P (sym (other-id y e)))

  seen-kept : (y : Id) → seen (mark_for width false names' marks' cap y) ≡ seen (mark_for width false names marks cap y)
  seen-kept y =
      by_cases (eq_id y x) (λ e. ap seen (this-mark y e) ∙ seen-withBits bits (mark_for width false names marks cap y)) (λ e. ap seen (other-id y e))

  -- the mark of the slot
  slot-mark : get_or marks' k 0 ≡ with_bits bits (get_or marks k 0)
  slot-mark = sym (mark-held g.table k g.holds) ∙ g.this ∙ ap (with_bits bits) (sym g.was)

  module _ (b : is_painted bits ≡ true) where
    slot-painted : is_painted (get_or marks' k 0) ≡ true
    slot-painted = ap is_painted slot-mark ∙ painted-with_bits bits (get_or marks k 0) b

    stays-painted : (s : ℕ) → is_painted (get_or marks s 0) ≡ true → is_painted (get_or marks' s 0) ≡ true
    stays-painted s h = ⊎_elim (λ e. subst (λ (j : ℕ). is_painted (get_or marks' j 0) ≡ true) (sym e) slot-painted) (λ n. ap is_painted (g.apart s n) ∙ h) (same? s k)

    stays-taken : (s : ℕ) → live_at false marks s ≡ true → live_at false marks' s ≡ true
    stays-taken s h =
        ⊎_elim (λ e. subst (λ (j : ℕ). live_at false marks' j ≡ true) (sym e) (painted-live (get_or marks' k 0) slot-painted)) (λ n. ap (live false) (g.apart s n) ∙ h) (same? s k)

    gained-spares : (levels levels' : List ℕ) (times times' : List ℤ) (line line' : List ℕ) (base : ℕ) → take base line' ≡ take base line
        → Spares width cap base (lent names marks levels times line) (lent names' marks' levels' times' line')
    gained-spares levels levels' times times' line line' base e = record { seen_same = seen-kept; taken = λ s l a. (stays-taken s a, g.taken s l a); below = e }

  gained-named : (levels levels' : List ℕ) (times times' : List ℤ) (line line' : List ℕ) (u : List Id) → Memᴰ x u → Named width cap u (lent names marks levels times line)
      → Named width cap u (lent names' marks' levels' times' line')
  gained-named levels levels' times times' line line' u i n = record {
    few = n.few;
    small = n.small;
    inside = λ y h. by_cases (eq_id y x) (λ e. subst (λ (z : Id). Memᴰ z u) (sym (eq_id_eq y x e)) i) (λ e. n.inside y (λ z. h (other-id y e ∙ z)));
  }

-- ---- its slot has its pair, and those of the others stand

module _ {width : ℕ} {w : World} {names marks levels : List ℕ} {times : List ℤ} {names' marks' levels' : List ℕ} {times' : List ℤ} {cap : ℕ} {x : Id} {bits k : ℕ}
    (g : Gained width names marks names' marks' cap x bits k) (q : Paired w marks levels times levels' times' x k) where
  level-same : (s : ℕ) → is_painted (get_or marks s 0) ≡ true → level_of levels' s ≡ level_of levels s
  level-same s h =
      ⊎_elim (λ a. ap (λ (l : List ℕ). level_of l s) a.1)
      (λ a.
      ap (λ (l : List ℕ). level_of l s) a.1.level_set
      ∙ get_or-set_other levels k s a.1.pair.generation 0 (λ e. clash h (ap (λ (j : ℕ). is_painted (get_or marks j 0)) e ∙ a.0)))
      q

  time-same : (s : ℕ) → is_painted (get_or marks s 0) ≡ true → seconds_of times' s ≡ seconds_of times s
  time-same s h =
      ⊎_elim (λ a. ap (λ (l : List ℤ). seconds_of l s) a.2)
      (λ a.
      ap (λ (l : List ℤ). seconds_of l s) a.1.time_set
      ∙ get_or-set_other times k s a.1.pair.time (pos 0) (λ e. clash h (ap (λ (j : ℕ). is_painted (get_or marks j 0)) e ∙ a.0)))
      q

  pair_same : (s : ℕ) → is_painted (get_or marks s 0) ≡ true → pair_at levels' times' s ≡ pair_at levels times s
  pair_same s h = let a = level-same s h in let b = time-same s h in λ i. record { generation = a i; time = b i }

  entry-same : (s : ℕ) → s < cap → is_painted (get_or marks s 0) ≡ true → entry_at width names' levels' times' s ≡ entry_at width names levels times s
  entry-same s l h = let a = pair_same s h in let b = g.taken s l (painted-live (get_or marks s 0) h) in λ i. (a i, b i)

  levels-long : cap ≤ length levels → cap ≤ length levels'
  levels-long h =
      ⊎_elim (λ a. omega (arith, ap length a.1)) (λ a. omega (arith, ap length a.1.level_set, length-set levels k a.1.pair.generation)) q

  times_long : cap ≤ length times → cap ≤ length times'
  times_long h =
      ⊎_elim (λ a. omega (arith, ap length a.2)) (λ a. omega (arith, ap length a.1.time_set, length-set times k a.1.pair.time)) q

  -- a slot that was read still is
  still-known : (s : ℕ) → s < cap → is_painted (get_or marks s 0) ≡ true → IsKnown width w names levels times s → IsKnown width w names' levels' times' s
  still-known s l h n = record { parents = n.parents; is = ap (read w) (g.taken s l (painted-live (get_or marks s 0) h)) ∙ n.is ∙ ap (good n.parents) (sym (pair_same s h)) }

  -- the slot itself
  slot-known : cap ≤ length levels → cap ≤ length times → ((s : ℕ) → s < cap → is_painted (get_or marks s 0) ≡ true → IsKnown width w names levels times s) → IsKnown width w names' levels' times' k
  slot-known hl ht known =
      ⊎_elim (λ a. still-known k g.holds.low a.0 (known k g.holds.low a.0))
      (λ a.
      let n = a.1 in
      let o : level_of levels' k ≡ n.pair.generation = ap (λ (l : List ℕ). level_of l k) n.level_set ∙ get_or-set_same levels k n.pair.generation 0 (omega (arith, g.holds.low)) in
      let t : seconds_of times' k ≡ n.pair.time = ap (λ (l : List ℤ). seconds_of l k) n.time_set ∙ get_or-set_same times k n.pair.time (pos 0) (omega (arith, g.holds.low)) in
      let e : pair_at levels' times' k ≡ n.pair = λ i. record { generation = o i; time = t i } in
      record { parents = n.parents; is = ap (read w) g.holds.is ∙ n.is ∙ ap (good n.parents) (sym e) })
      q

-- ---- the queue

pending_nil : (b : Pair × Id) → add_pending b.0 b.1 [] ≡ b ∷ []
unfolding add_pending
pending_nil b = refl

pending_cons : (b c : Pair × Id) (l : List (Pair × Id)) → add_pending b.0 b.1 (c ∷ l) ≡ cond (lt_pair c.0 b.0) (b ∷ (c ∷ l)) (c ∷ add_pending b.0 b.1 l)
unfolding add_pending
pending_cons b c l = refl

-- slots are set against each other as their pairs are, by definition
insert_entries : (width : ℕ) (names levels : List ℕ) (times : List ℤ) (k : ℕ) (l : List ℕ)
    → map (entry_at width names levels times) (insert_by (ahead levels times) k l) ≡ add_pending (pair_at levels times k) (id_of width names k) (map (entry_at width names levels times) l)
unfolding ahead
insert_entries width names levels times k l =
    insert-map (entry_at width names levels times) (ahead levels times) (λ b c. lt_pair c.0 b.0) (λ b m. add_pending b.0 b.1 m) pending_nil pending_cons k l
    (λ y h. refl)

-- ---- all of it

-- the commit x gets the marks of `bits` and is queued with the pair q
abbrev marked : Paint → Id → ℕ → Pair → Paint
marked st x bits q = record {
  vis = also (visible bits) st.vis x;
  hid = also (hidden bits) st.hid x;
  stale = also (stale bits) st.stale x;
  pending = add_pending q x st.pending;
}

mark-good : (w : World) (bits : ℕ) (x : Id) (st : Paint) (ps : List Id) (q : Pair) → read w x ≡ good ps q → mark w (marks_of bits) x st ≡ going (marked st x bits q)
unfolding mark mark_read
mark-good w bits x st ps q e = rw e

mark-fail : (w : World) (bits : ℕ) (x : Id) (st : Paint) (n : Refusal) → read w x ≡ fail n → mark w (marks_of bits) x st ≡ stop n
unfolding mark mark_read
mark-fail w bits x st n e = rw e

module _ {width : ℕ} {w : World} {cap : ℕ} {u : List Id} {names marks levels : List ℕ} {times : List ℤ} {line : List ℕ} {p : Pending} {x : Id} {bits : ℕ} {st : Paint}
    (h : MayStep width w cap u (lent names marks levels times line) p x bits st (mark w (marks_of bits) x st)) where
  -- a full table does not come
  pub has-slot : Finds width false names marks cap x TableFull → ⊥
  has-slot f = room u h.reads.table f h.wide h.named.few (within h.named.inside) h.in_u refl

  module _ {names' marks' levels' : List ℕ} {times' : List ℤ} where
    -- the commit cannot be read
    pub stops-here : {n : Refusal} {k : ℕ} → read w x ≡ fail n → Gained width names marks names' marks' cap x bits k
        → Stops width cap p (lent names marks levels times line) (lent names' marks' levels' times' line) n (mark w (marks_of bits) x st)
    stops-here {n} e g = record {
      is = mark-fail w bits x st n e;
      table = g.table;
      spares = gained-spares g h.some-mark levels levels' times times' line line p.base refl;
    }

    module _ {k : ℕ} (g : Gained width names marks names' marks' cap x bits k) (q : Paired w marks levels times levels' times' x k) where
      here : IsKnown width w names' levels' times' k
      here = slot-known g q h.reads.for_levels h.reads.for_times h.reads.known

      is_read : read w x ≡ good here.parents (pair_at levels' times' k)
      is_read = ap (read w) (sym g.holds.is) ∙ here.is

      is-marked : mark w (marks_of bits) x st ≡ going (marked st x bits (pair_at levels' times' k))
      is-marked = mark-good w bits x st here.parents (pair_at levels' times' k) is_read

      -- there is room in the queue
      pub has_room : Room p line
      has_room =
          let n = h.room (marked st x bits (pair_at levels' times' k)) is-marked in
          few-room levels times p line h.reads.right
          (omega (arith, length_add_pending (pair_at levels' times' k) x st.pending, ap length h.reads.queue, length-map (slots_in levels times p line) (entry_at width names levels times)))

      -- the slot had no mark of painting's where its pair is set down, so it did not wait, and those that wait are as they were
      still-wait : slots_in levels' times' p line ≡ slots_in levels times p line
      still-wait = slots_frame levels levels' times times' p line (λ s i. let o = h.reads.queued s i in (level-same g q s o.1, time-same g q s o.1))

      module _ {line' : List ℕ} {d : Pending} (e : Entered levels' times' k p line d line') where
        queue-now : add_pending (pair_at levels' times' k) x st.pending ≡ map (entry_at width names' levels' times') (slots_in levels' times' d line')
        queue-now =
            ap (add_pending (pair_at levels' times' k) x) h.reads.queue
            ∙ ap (λ (y : Id). add_pending (pair_at levels' times' k) y (map (entry_at width names levels times) (slots_in levels times p line))) (sym g.holds.is)
            ∙ ap (add_pending (pair_at levels' times' k) (id_of width names' k))
            (sym (map_agree (entry_at width names' levels' times') (entry_at width names levels times) (slots_in levels times p line)
            (λ s i. let o = h.reads.queued s i in entry-same g q s o.0 o.1)))
            ∙ sym (insert_entries width names' levels' times' k (slots_in levels times p line))
            ∙ ap (λ (l : List ℕ). map (entry_at width names' levels' times') (insert_by (ahead levels' times') k l)) (sym still-wait)
            ∙ ap (map (entry_at width names' levels' times')) (sym e.slots)

        marked-reads : PaintReads width w cap (lent names' marks' levels' times' line') d (marked st x bits (pair_at levels' times' k))
        marked-reads = record {
          table = g.table;
          for_levels = levels-long g q h.reads.for_levels;
          for_times = times_long g q h.reads.for_times;
          right = e.right;
          vis = gained-bit g visible visible-withBits st.vis h.reads.vis;
          hid = gained-bit g hidden hidden-withBits st.hid h.reads.hid;
          stale = gained-bit g stale stale-withBits st.stale h.reads.stale;
          queue = queue-now;
          queued = pushed-all e (λ (s : ℕ). (s < cap) × (is_painted (get_or marks' s 0) ≡ true)) (g.holds.low, slot-painted g h.some-mark)
              (λ s i. let o = h.reads.queued s (subst (In s) still-wait i) in (o.0, stays-painted g h.some-mark s o.1));
          known = λ s l a.
              ⊎_elim (λ o. subst (λ (j : ℕ). IsKnown width w names' levels' times' j) (sym o) here)
              (λ n. let b : is_painted (get_or marks s 0) ≡ true = ap is_painted (sym (g.apart s n)) ∙ a in still-known g q s l b (h.reads.known s l b))
              (same? s k);
        }

        -- painting goes on
        pub goes-here : take p.base line' ≡ take p.base line
            → Goes width w cap u p (lent names marks levels times line) (lent names' marks' levels' times' line') d (mark w (marks_of bits) x st)
        goes-here below = record {
          state = marked st x bits (pair_at levels' times' k);
          is = is-marked;
          reads = marked-reads;
          named = gained-named g levels levels' times times' line line' u h.in_u h.named;
          spares = gained-spares g h.some-mark levels levels' times times' line line' p.base below;
          base = e.base;
          end = e.end;
        }
