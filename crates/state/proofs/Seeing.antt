-- What is seen and what is in the frontier stands in live slots, and before and after painting nothing else does. So a search finds an id
-- exactly where it is seen or in the frontier; where it is neither it finds room, since the live slots hold fewer ids than the universe;
-- and the new slot was not live, so no waiting slot changes. Assumes nothing.
use mathlib.Core.Path.{◌≡◌, refl, sym, ap, ◌∙◌, subst}
use mathlib.Core.Logic.{◌⊎◌, inl, inr, ⊎_elim}
use Prim.Native.Nat.{ℕ, ◌<◌}
use mathlib.Core.Bool.{Bool, true, false, cond, not, ◌&&◌, ◌||◌}
use mathlib.Core.List.{List, Memᴰ}
use native.Mathlib.Omega.{arith}
use lib.ListN.{length, get_or}
use lib.IntN.{ℤ, pos}
use Rattle.std.specs.Prelude.{Some, None}
use Rattle.hash.specs.Bytes.{Id, eq_id, width_of}
use Rattle.hash.proofs.Tests.{by_cases, clash, or_left, or_right, or_cases, and_second, and_of}
use Rattle.hash.proofs.Ids.{eq_id_eq, eq_id-same}
use Rattle.hashtable.specs.Marks.{seen, frontier, visible, live}
use Rattle.hashtable.specs.Table.{live_at, Holds, mark_for, has, Finds, Inserts}
use Rattle.hashtable.specs.declared.table.Slot.{Slot}
use Rattle.hashtable.specs.declared.table.Slot.TheVariants.{Found, Vacant, Full}
use Rattle.hashtable.proofs.MarksBits.{live-seen, seen_0, frontier_0}
use Rattle.hashtable.proofs.TableIds.{same?}
use Rattle.hashtable.proofs.TableRoom.{Within, room}
use Rattle.hashtable.proofs.TableView.{mark-held, has-slot, vacant-mark, new-mark, other-mark}
use Rattle.revwalk.specs.Order.{In}
use Rattle.walk.specs.State.{State, add, sees}
use Rattle.state.specs.declared.Fixed.{Fixed}
use Rattle.state.specs.declared.Record.{Record}
use Rattle.state.specs.Reads.{Memory, Shape, memory_width, entry_of, waiting, Reads, Universe}
use Rattle.state.specs.Steps.{mem, Entered, Sees}
use Rattle.state.proofs.Entries.{map_agree}
use Rattle.state.proofs.States.{waits-live}

-- the mark of an id that is seen and nothing else
seen_8 : seen 8 ≡ true
unfolding seen
seen_8 = refl

frontier_8 : frontier 8 ≡ false
unfolding frontier visible
frontier_8 = refl

-- ---- an id is known exactly where a live slot holds it

module _ {r : Record} {m : Memory} {sh : Shape} {st : State} (g : Reads r m sh st) where
  seen-held : (x : Id) (k : ℕ) → Holds (memory_width sh) r.painted m.names m.marks sh.cap x k → seen (get_or m.marks k 0) ≡ true → st.seen x ≡ true
  seen-held x k h e = g.seen-is x ∙ ap seen (mark-held g.table k h) ∙ e

  frontier-held : r.failed ≡ false → r.painted ≡ true → (x : Id) (k : ℕ) → Holds (memory_width sh) r.painted m.names m.marks sh.cap x k → frontier (get_or m.marks k 0) ≡ true → st.frontier x ≡ true
  frontier-held f p x k h e = g.frontier-is x ∙ and_of (and_of p (ap not f)) (ap frontier (mark-held g.table k h) ∙ e)

  pub live-known : r.failed ≡ false → (x : Id) (k : ℕ) → Holds (memory_width sh) r.painted m.names m.marks sh.cap x k → (st.seen x ≡ true) ⊎ (st.frontier x ≡ true)
  unfolding live
  live-known f x k h =
      by_cases r.painted
      (λ p.
      let a : live true (get_or m.marks k 0) ≡ true = ap (λ (b : Bool). live b (get_or m.marks k 0)) (sym p) ∙ h.alive in
      ⊎_elim (λ e. inl (seen-held x k h e)) (λ e. inr (frontier-held f p x k h e)) (or_cases {a = seen (get_or m.marks k 0)} {b = frontier (get_or m.marks k 0)} a))
      (λ p.
      let a : live false (get_or m.marks k 0) ≡ true = ap (λ (b : Bool). live b (get_or m.marks k 0)) (sym p) ∙ h.alive in
      inl (seen-held x k h (g.only_seen p k h.low a).0))

  pub known-live : (x : Id) → (st.frontier x || st.seen x) ≡ true → (k : ℕ) × Holds (memory_width sh) r.painted m.names m.marks sh.cap x k
  known-live x e =
      ⊎_elim
      (λ p.
      let a = and_second (r.painted && not r.failed) (has (memory_width sh) r.painted m.names m.marks sh.cap frontier x) (sym (g.frontier-is x) ∙ p) in
      let v = has-slot (memory_width sh) r.painted m.names m.marks sh.cap x frontier frontier_0 a in
      (v.0, v.1))
      (λ p.
      let v = has-slot (memory_width sh) r.painted m.names m.marks sh.cap x seen seen_0 (sym (g.seen-is x) ∙ p) in
      (v.0, v.1))
      (or_cases {a = st.frontier x} {b = st.seen x} e)

  unknown : (x : Id) → (st.frontier x || st.seen x) ≡ false → (st.seen x ≡ true) ⊎ (st.frontier x ≡ true) → ⊥
  unknown x n w = ⊎_elim (λ e. clash (or_right (st.frontier x) (st.seen x) e) n) (λ e. clash (or_left (st.frontier x) (st.seen x) e) n) w

  pub universe-within : r.failed ≡ false → {u : List Id} → Universe sh st u → Within (memory_width sh) r.painted m.names m.marks sh.cap u
  universe-within f v y k h = ⊎_elim (v.has-seen y) (v.has-frontier y) (live-known f y k h)

  pub room_for : r.failed ≡ false → (x : Id) {s : Slot} → Finds (memory_width sh) r.painted m.names m.marks sh.cap x s → length x ≡ memory_width sh → {u : List Id} → Universe sh st u → Memᴰ x u → s ≡ Full → ⊥
  room_for f x s w {u} v i e = room u g.table s w v.few (universe-within f v) i e

-- ---- a new id enters a slot that was not live

module _ {r : Record} {names marks names' marks' : List ℕ} {times : List ℤ} {line : List ℕ} {sh : Shape} {st : State} {x : Id} {s : Slot}
    (g : Reads r (mem names marks times line) sh st) (i : Inserts (memory_width sh) r.painted names marks names' marks' sh.cap x 8 s) (k : ℕ) (e : s ≡ Vacant k) where
  lives : live r.painted 8 ≡ true
  lives = live-seen r.painted 8 seen_8

  new-slot : (j : ℕ) → In j (waiting r (mem names marks times line)) → j ≡ k → ⊥
  new-slot j h p = clash (ap (live_at r.painted marks) (sym p) ∙ waits-live g j h) (i.finds.free k e).dead

  entry_kept : (j : ℕ) → In j (waiting r (mem names marks times line)) → entry_of (memory_width sh) sh.timed names times j ≡ entry_of (memory_width sh) sh.timed names' times j
  entry_kept j h = ap {B = Id × ℤ} (λ (y : Id). (y, cond sh.timed (get_or times j (pos 0)) (pos 0))) (sym (i.old k e j (new-slot j h)).0)

  -- a property of marks that the marks of two tables share for every id but x
  by-id : (P : ℕ → Bool) (y : Id) → (y ≡ x → ⊥) → P (mark_for (memory_width sh) r.painted names marks sh.cap y) ≡ P (mark_for (memory_width sh) r.painted names' marks' sh.cap y)
  by-id P y n = ap P (sym (other-mark g.table lives i k e y n))

  mark-new : (P : ℕ → Bool) (y : Id) → y ≡ x → P (mark_for (memory_width sh) r.painted names' marks' sh.cap y) ≡ P 8
  mark-new P y p = ap (λ (z : Id). P (mark_for (memory_width sh) r.painted names' marks' sh.cap z)) p ∙ ap P (new-mark g.table lives i k e)

  seen_more : (y : Id) → add st.seen x y ≡ seen (mark_for (memory_width sh) r.painted names' marks' sh.cap y)
  unfolding add
  seen_more y =
      by_cases (eq_id y x)
      (λ p. rw p (sym (mark-new seen y (eq_id_eq y x p) ∙ seen_8)))
      (λ p. rw p (g.seen-is y ∙ by-id seen y (λ q. clash (eq_id-same y x q) p)))

  frontier-same : (y : Id) → frontier (mark_for (memory_width sh) r.painted names marks sh.cap y) ≡ frontier (mark_for (memory_width sh) r.painted names' marks' sh.cap y)
  frontier-same y =
      by_cases (eq_id y x)
      (λ p.
      let q = eq_id_eq y x p in
      ap (λ (z : Id). frontier (mark_for (memory_width sh) r.painted names marks sh.cap z)) q
      ∙ ap frontier (vacant-mark g.table i.finds k e)
      ∙ frontier_0
      ∙ sym frontier_8
      ∙ sym (mark-new frontier y q))
      (λ p. by-id frontier y (λ q. clash (eq_id-same y x q) p))

  mark-8 : get_or marks' k 0 ≡ 8
  mark-8 = (i.new k e).1

  seen-there : seen (get_or marks' k 0) ≡ true
  seen-there = ap seen mark-8 ∙ seen_8

  only : r.painted ≡ false → (j : ℕ) → j < sh.cap → live_at false marks' j ≡ true → (seen (get_or marks' j 0) ≡ true) × (frontier (get_or marks' j 0) ≡ false)
  only p j l a =
      ⊎_elim
      (λ q. let o = ap (λ (n : ℕ). get_or marks' n 0) q ∙ mark-8 in (ap seen o ∙ seen_8, ap frontier o ∙ frontier_8))
      (λ n.
      let o = (i.old k e j n).1 in
      let h = g.only_seen p j l (ap (live false) (sym o) ∙ a) in
      (ap seen o ∙ h.0, ap frontier o ∙ h.1))
      (same? j k)

  enters : Reads r (mem names' marks' times line) sh (sees st x)
  unfolding sees
  enters = record {
    alive = g.alive;
    timed = g.timed;
    newest = g.newest;
    cap = g.cap;
    fixed = g.fixed;
    for_times = g.for_times;
    for_line = g.for_line;
    table = i.right g.table lives;
    good = g.good;
    queue = g.queue ∙ map_agree _ _ (waiting r (mem names marks times line)) entry_kept;
    waits-seen = λ j h. ap seen (i.old k e j (new-slot j h)).1 ∙ g.waits-seen j h;
    numbers = g.numbers;
    seen-is = seen_more;
    frontier-is = λ y. g.frontier-is y ∙ ap (λ (b : Bool). r.painted && not r.failed && b) (frontier-same y);
    only_seen = only;
    failed-empty = g.failed-empty;
    painted = g.painted;
    kept = g.kept;
    admitted = g.admitted;
    struck = g.struck;
  }

  pub entered : Entered r (mem names' marks' times line) sh st x k
  entered = record {
    reads = enters;
    slot = record {
      low = (i.finds.free k e).low;
      holds = (i.new k e).0;
      marked = seen-there;
      apart = λ h. new-slot k h refl;
    };
  }

-- ---- the three answers

module _ {r : Record} {names marks names' marks' : List ℕ} {x : Id} {s : Slot} (i : Inserts (width_of r.fixed.kind) r.painted names marks names' marks' r.queue.cap x 8 s)
    (ln : length names' ≡ length names) (lm : length marks' ≡ length marks) where
  -- the number of slots and the kind of ids are those of the shape
  by_shape : {times : List ℤ} {line : List ℕ} {sh : Shape} {st : State} → Reads r (mem names marks times line) sh st → Inserts (memory_width sh) r.painted names marks names' marks' sh.cap x 8 s
  by_shape {sh = sh} g =
      subst (λ (f : Fixed). Inserts (width_of f.kind) r.painted names marks names' marks' sh.cap x 8 s) g.fixed
      (subst (λ (c : ℕ). Inserts (width_of r.fixed.kind) r.painted names marks names' marks' c x 8 s) g.cap i)

  found_at : {times : List ℤ} {line : List ℕ} {sh : Shape} {st : State} → Reads r (mem names marks times line) sh st → (st.frontier x || st.seen x) ≡ true → (k : ℕ) × (s ≡ Found k)
  found_at g e = let w = known-live g x e in (w.0, (by_shape g).finds.all g.table w.0 w.1)

  found-known : {times : List ℤ} {line : List ℕ} {sh : Shape} {st : State} → Reads r (mem names marks times line) sh st → r.failed ≡ false → (st.frontier x || st.seen x) ≡ false → (k : ℕ) → s ≡ Found k → ⊥
  found-known g f n k e = unknown g x n (live-known g f x k ((by_shape g).finds.hit k e))

  pub sees-vacant : (k : ℕ) → s ≡ Vacant k → Sees r names marks names' marks' x (Some k)
  sees-vacant k e = record {
    long-names = ln;
    long-marks = lm;
    told = record {
      old = λ times line sh st g p. let q = sym e ∙ (found_at g p).1 in cc;
      new = λ times line sh st g f w n u v m. entered g (by_shape g) k e;
    };
  }

  pub sees-found : (k : ℕ) → s ≡ Found k → Sees r names marks names' marks' x None
  sees-found k e = record {
    long-names = ln;
    long-marks = lm;
    told = record { still = i.found k e; new = λ times line sh st g f w n u v m. found-known g f n k e };
  }

  pub sees-full : s ≡ Full → Sees r names marks names' marks' x None
  sees-full e = record {
    long-names = ln;
    long-marks = lm;
    told = record { still = i.full e; new = λ times line sh st g f w n u v m. room_for g f x (by_shape g).finds w v m e };
  }
