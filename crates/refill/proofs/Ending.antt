-- The end of painting as a step of a state: marks that only painting used count as none, so the seen ids are the same and the frontier is every
-- id with both marks; the seconds read again are those that commits waited with, so the queue stands in its old order, and what is left of it
-- are the entries outside the frontier. Assumes nothing.
use mathlib.Core.Path.{◌≡◌, refl, sym, ap, ◌∙◌, subst}
use mathlib.Core.Logic.{⊎_elim}
use Prim.Native.Nat.{ℕ, ◌+◌, ◌*◌, ◌≤◌, ◌<◌}
use mathlib.Core.Bool.{Bool, true, false, cond, not, ◌&&◌}
use mathlib.Core.List.{List, [], ◌∷◌, map, Memᴰ}
use native.Mathlib.Omega.{arith}
use lib.ListN.{length, get_or, length-map}
use lib.IntN.{ℤ, pos}
use Rattle.hash.specs.Bytes.{Id}
use Rattle.hash.proofs.Tests.{by_cases, clash, not_yes, and_both}
use Rattle.hashtable.specs.Marks.{visible, hidden, seen, frontier, live}
use Rattle.hashtable.specs.Table.{id_of, Holds, Table, mark_for}
use Rattle.hashtable.proofs.MarksBits.{live-seen, live-frontier, seen_0, frontier_0}
use Rattle.hashtable.proofs.TableKept.{painted-table}
use Rattle.hashtable.proofs.TableView.{mark-held, has-slot, painted-live, painted-gone}
use Rattle.odb.specs.Store.{store_is_ok}
use Rattle.revwalk.specs.declared.queue.Queue.{Queue}
use Rattle.revwalk.specs.Order.{at, In}
use Rattle.revwalk.specs.Queue.{slots_of, GoodQueue, Alike}
use Rattle.revwalk.proofs.QueueGood.{either, slots_length}
use Rattle.revwalk.proofs.QueueSlots.{emptied, emptied-list, times-good, times-list, ring-good, ring-list, line-good, line-list}
use Rattle.walk.specs.Lookup.{world_of, seconds_for}
use Rattle.walk.specs.State.{State, nobody}
use Rattle.walk.specs.Next.{outside, painted_with}
use Rattle.hash.specs.Bytes.{width_of}
use Rattle.state.specs.declared.Fixed.{Fixed}
use Rattle.state.specs.declared.Record.{Record}
use Rattle.state.specs.Reads.{Memory, Shape, entry_of, waiting, Reads, memory_width}
use Rattle.state.specs.Steps.{mem}
use Rattle.state.proofs.Entries.{map_agree}
use Rattle.state.proofs.States.{waits-low, queue-length, count_low}
use Rattle.refill.specs.Painted.{Painted, Due, Timed, Leaves, Fails, Skips}
use Rattle.refill.specs.Inner.{empty_queue, painted_record, Struck, Ends, Rereads, Sifts, Holding, without, in_frontier}
use Rattle.refill.proofs.Lists.{in_without, length_without, outside_map}

-- ---- the record

pub ends : {r : Record} {q : Queue} {f : Bool} {s : ℕ} → Struck r.struck r.queue.count q.count s
    → Ends r q f (record { live = r.live; painted = true; failed = f; kept = r.kept; fixed = r.fixed; queue = q; admitted = r.admitted; struck = s })
ends {r} {q} {f} e = record {
  failed = refl;
  is = λ a b d. ap {B = Record} (λ (n : ℕ). record { live = r.live; painted = true; failed = f; kept = r.kept; fixed = r.fixed; queue = q; admitted = r.admitted; struck = n }) (e.is a b d);
}

-- ---- marks that are not live any more count as none

seen-dead : (m : ℕ) → live true m ≡ false → seen m ≡ false
seen-dead m d = not_yes (λ s. clash (live-seen true m s) d)

frontier-dead : (m : ℕ) → live true m ≡ false → frontier m ≡ false
unfolding frontier
frontier-dead m d = not_yes (λ f. let b = and_both {a = visible m} {b = hidden m} f in clash (live-frontier true m b.0 b.1) d)

module _ {width : ℕ} {names marks : List ℕ} {cap : ℕ} (t : Table width false names marks cap) (x : Id) where
  painted_same : (P : ℕ → Bool) → P 0 ≡ false → ((m : ℕ) → live true m ≡ false → P m ≡ false) → P (mark_for width true names marks cap x) ≡ P (mark_for width false names marks cap x)
  painted_same P z h =
      by_cases (live true (mark_for width false names marks cap x))
      (λ a. ap P (painted-live t x a))
      (λ d. ap P (painted-gone t x d) ∙ z ∙ sym (h (mark_for width false names marks cap x) d))

-- ---- a state after painting

module _ {r : Record} {m : Memory} {sh : Shape} {st : State} (g : Reads r m sh st) (u : r.painted ≡ false) where
  table-then : Table (memory_width sh) false m.names m.marks sh.cap
  table-then = subst (λ (b : Bool). Table (memory_width sh) b m.names m.marks sh.cap) u g.table

  seen-then : (x : Id) → st.seen x ≡ seen (mark_for (memory_width sh) false m.names m.marks sh.cap x)
  seen-then x = g.seen-is x ∙ ap (λ (b : Bool). seen (mark_for (memory_width sh) b m.names m.marks sh.cap x)) u

  painted-reads : (q : Queue) (failed : Bool) (m' : Memory) (l : List (Id × ℤ)) (f : Id → Bool) → Alike r.queue q → sh.cap ≤ length m'.times → 5 * sh.cap ≤ length m'.line
      → Table (memory_width sh) false m'.names m'.marks sh.cap
      → ((x : Id) → seen (mark_for (memory_width sh) false m'.names m'.marks sh.cap x) ≡ seen (mark_for (memory_width sh) false m.names m.marks sh.cap x))
      → GoodQueue q m'.times m'.line → l ≡ map (entry_of (memory_width sh) sh.timed m'.names m'.times) (slots_of q m'.times m'.line)
      → ((s : ℕ) → In s (slots_of q m'.times m'.line) → seen (get_or m'.marks s 0) ≡ true) → q.next ≤ r.admitted + cond r.kept 0 1
      → ((x : Id) → f x ≡ (not failed && frontier (mark_for (memory_width sh) false m'.names m'.marks sh.cap x))) → (failed ≡ true → slots_of q m'.times m'.line ≡ [])
      → Reads (painted_record r q failed) m' sh (painted_with st l f)
  unfolding painted_with
  painted-reads q failed m' l f a long-times long-line t same good el seens next ef empty = record {
    alive = g.alive;
    timed = a.timed ∙ g.timed;
    newest = a.newest ∙ g.newest;
    cap = a.cap ∙ g.cap;
    fixed = g.fixed;
    for_times = long-times;
    for_line = long-line;
    table = painted-table t;
    good = good;
    queue = el;
    waits-seen = seens;
    numbers = next;
    seen-is = λ x. seen-then x ∙ sym (same x) ∙ sym (painted_same t x seen seen_0 seen-dead);
    frontier-is = λ x. ef x ∙ ap (λ (b : Bool). not failed && b) (sym (painted_same t x frontier frontier_0 frontier-dead));
    only_seen = λ e. clash refl e;
    failed-empty = empty;
    painted = refl;
    kept = g.kept;
    admitted = g.admitted;
    struck =
        let c = queue-length g in
        let n : length l ≡ q.count = ap length el ∙ length-map (slots_of q m'.times m'.line) (entry_of (memory_width sh) sh.timed m'.names m'.times) ∙ slots_length q m'.times m'.line in
        let s = g.struck in
        omega arith;
  }

-- ---- skip_painting, fail_painting

and_no : (a : Bool) {b : Bool} → b ≡ false → false ≡ (a && b)
and_no true e = sym e
and_no false e = refl

pub skips : {r r' : Record} → Ends r r.queue r.failed r' → Skips r r'
skips {r} {r'} e = record {
  failed = e.failed;
  reads = λ m sh st d free.
      let g = d.reads in
      let none : (x : Id) → frontier (mark_for (memory_width sh) false m.names m.marks sh.cap x) ≡ false = λ x. not_yes (λ h.
      let w = has-slot (memory_width sh) false m.names m.marks sh.cap x frontier frontier_0 h in
      clash w.2 (free w.0 w.1.low w.1.alive)) in
      subst (λ (a : Record). Reads a m sh (painted_with st st.queue nobody)) (sym (e.is (omega (arith, d.few)) (omega (arith, d.few, count_low g)) (omega arith)))
      (painted-reads g d.unpainted r.queue r.failed m st.queue nobody (record { timed = refl; newest = refl; cap = refl }) g.for_times g.for_line (table-then g d.unpainted) (λ x. refl) g.good
      g.queue g.waits-seen g.numbers (λ x. and_no (not r.failed) (none x)) g.failed-empty);
}

nothing_in : (s : ℕ) → In s [] → ⊥
unfolding In
nothing_in s h = h

fails_empty : {r r' : Record} → Ends r (empty_queue r.queue) true r' → Fails r r'
fails_empty {r} {r'} e = record {
  failed = e.failed;
  reads = λ m m' sh st d p.
      let g = d.reads in
      let q : Queue = empty_queue r.queue in
      let none : slots_of q m'.times m'.line ≡ [] = emptied-list q m'.times m'.line refl in
      subst (λ (a : Record). Reads a m' sh (painted_with st [] nobody)) (sym (e.is (omega (arith, d.few)) (omega (arith, d.few, count_low g)) (omega arith)))
      (painted-reads g d.unpainted q true m' [] nobody (record { timed = refl; newest = refl; cap = refl }) (omega (arith, g.for_times, p.long-times)) (omega (arith, g.for_line, p.long-line)) p.table p.seen_same
      (emptied q m'.times m'.line refl refl (omega (arith, g.for_line, p.long-line, g.cap))) (sym (ap (map (entry_of (memory_width sh) sh.timed m'.names m'.times)) none))
      (λ s h. absurd (nothing_in s (subst (In s) none h))) (omega arith) (λ x. refl) (λ f. none));
}

pub fails : {r r' : Record} {q : Queue} → q ≡ empty_queue r.queue → Ends r q true r' → Fails r r'
fails {r} {r'} e f = fails_empty (subst (λ (q : Queue). Ends r q true r') e f)

-- ---- leave_frontier

cond_agree : (b : Bool) {t t' : ℤ} → (b ≡ true → t ≡ t') → cond b t (pos 0) ≡ cond b t' (pos 0)
cond_agree true h = h refl
cond_agree false h = refl

in_map : {B : Type 0} (e : ℕ → B) (s : ℕ) (l : List ℕ) → In s l → Memᴰ (e s) (map e l)
unfolding In
in_map e s [] h = absurd h
in_map e s (y ∷ ys) h = ⊎_elim (λ p. mathlib.Core.List.Memᴰ.head (ap e p)) (λ i. mathlib.Core.List.Memᴰ.tail (in_map e s ys i)) h

module _ {r : Record} {store names marks : List ℕ} {times times' : List ℤ} {line line' : List ℕ} {left : Queue} (a : Rereads (width_of r.fixed.kind) r.queue store names line times times')
    (v : Sifts r.queue marks times' line line' left) where
  module _ (m : Memory) (sh : Shape) (st : State) (graph : List ℕ) (f : Id → Bool) (d : Due r m sh st) (p : Painted (memory_width sh) m (mem names marks times line) sh.cap) (o : store_is_ok (memory_width sh) store ≡ true)
      (tm : Timed (world_of (memory_width sh) store graph) sh st) (ff : (x : Id) → f x ≡ frontier (mark_for (memory_width sh) false names marks sh.cap x)) where
    g : Reads r m sh st
    g = d.reads

    -- the kind of ids is that of the shape
    reread : Rereads (memory_width sh) r.queue store names line times times'
    reread = subst (λ (x : Fixed). Rereads (width_of x.kind) r.queue store names line times times') g.fixed a

    line-below : (k : ℕ) → k < r.queue.cap + r.queue.cap → at m.line k ≡ at line k
    line-below k h = p.line_same k (subst (λ (c : ℕ). k < c + c) g.cap h)

    long-line : length line ≡ length m.line
    long-line = p.long-line

    long-times : length times ≡ length m.times
    long-times = p.long-times

    good-then : GoodQueue r.queue m.times line
    good-then = line-good g.good line line-below (omega (arith, long-line, g.for_line, g.cap))

    list-then : waiting r m ≡ slots_of r.queue m.times line
    list-then = line-list g.good line line-below

    -- ---- a waiting slot holds its id still
    held : (s : ℕ) → In s (waiting r m) → Holds (memory_width sh) false m.names m.marks sh.cap (id_of (memory_width sh) m.names s) s
    held s h = record { low = waits-low g s h; alive = live-seen false (get_or m.marks s 0) (g.waits-seen s h); is = refl }

    holds-now : (s : ℕ) → In s (waiting r m) → Holds (memory_width sh) false names marks sh.cap (id_of (memory_width sh) m.names s) s
    holds-now s h = p.still (id_of (memory_width sh) m.names s) s (held s h)

    seen-now : (s : ℕ) → In s (waiting r m) → seen (get_or marks s 0) ≡ true
    seen-now s h =
        ap seen (sym (mark-held p.table s (holds-now s h))) ∙ p.seen_same (id_of (memory_width sh) m.names s) ∙ ap seen (mark-held (table-then g d.unpainted) s (held s h)) ∙ g.waits-seen s h

    -- ---- its seconds are the old ones
    times-now : r.queue.timed ≡ true → (z : ℕ) → In z (slots_of r.queue m.times line) → get_or m.times z (pos 0) ≡ get_or times' z (pos 0)
    times-now e z h =
        let i : In z (waiting r m) = subst (In z) (sym list-then) h in
        let timed : sh.timed ≡ true = sym g.timed ∙ e in
        let all : Memᴰ (entry_of (memory_width sh) sh.timed m.names m.times z) st.queue = subst (Memᴰ (entry_of (memory_width sh) sh.timed m.names m.times z)) (sym g.queue) (in_map (entry_of (memory_width sh) sh.timed m.names m.times) z (waiting r m) i) in
        let entry : Memᴰ (id_of (memory_width sh) m.names z, get_or m.times z (pos 0)) st.queue = mathlib.Core.List.Memᴰ.cast (ap {B = Id × ℤ} (λ (b : Bool). (id_of (memory_width sh) m.names z, cond b (get_or m.times z (pos 0)) (pos 0))) (sym timed)) all in
        tm timed (id_of (memory_width sh) m.names z) (get_or m.times z (pos 0)) entry
        ∙ ap (seconds_for (world_of (memory_width sh) store graph)) (sym (holds-now z i).is)
        ∙ sym (reread.again m.times good-then e o graph z h (omega (arith, waits-low g z i, g.for_times, long-times)))

    good-now : GoodQueue r.queue times' line
    good-now =
        ⊎_elim
        (λ e. times-good r.queue m.times times' line (times-now e) good-then)
        (λ e. ring-good r.queue m.times times' line e good-then)
        (either r.queue.timed)

    list-now : waiting r m ≡ slots_of r.queue times' line
    list-now =
        list-then
        ∙ ⊎_elim
        (λ e. times-list r.queue m.times times' line (times-now e))
        (λ e. ring-list r.queue m.times times' line e)
        (either r.queue.timed)

    entry-now : (z : ℕ) → In z (waiting r m) → entry_of (memory_width sh) sh.timed m.names m.times z ≡ entry_of (memory_width sh) sh.timed names times' z
    entry-now z h =
        ap {B = Id × ℤ} (λ (x : Id). (x, cond sh.timed (get_or m.times z (pos 0)) (pos 0))) (sym (holds-now z h).is)
        ∙ ap {B = Id × ℤ} (λ (t : ℤ). (id_of (memory_width sh) names z, t)) (cond_agree sh.timed (λ e. times-now (g.timed ∙ e) z (subst (In z) list-then h)))

    -- ---- the queue that is left
    holding : Holding left times' line' (without (in_frontier marks) (slots_of r.queue times' line))
    holding = v.sifted (omega (arith, long-line, g.for_line, g.cap)) (omega (arith, d.few, g.cap)) good-now

    left_in : (z : ℕ) → In z (slots_of left times' line') → In z (waiting r m)
    left_in z h = subst (In z) (sym list-now) (in_without (in_frontier marks) z (slots_of r.queue times' line) (subst (In z) holding.list h))

    front-now : (z : ℕ) → In z (waiting r m) → f (id_of (memory_width sh) m.names z) ≡ in_frontier marks z
    front-now z h = ff (id_of (memory_width sh) m.names z) ∙ ap frontier (mark-held p.table z (holds-now z h))

    queue-now : outside f st.queue ≡ map (entry_of (memory_width sh) sh.timed names times') (slots_of left times' line')
    queue-now =
        ap (outside f) g.queue
        ∙ outside_map f (entry_of (memory_width sh) sh.timed m.names m.times) (in_frontier marks) (waiting r m) front-now
        ∙ map_agree (entry_of (memory_width sh) sh.timed m.names m.times) (entry_of (memory_width sh) sh.timed names times') (without (in_frontier marks) (waiting r m)) (λ z h. entry-now z (in_without (in_frontier marks) z (waiting r m) h))
        ∙ ap (λ (l : List ℕ). map (entry_of (memory_width sh) sh.timed names times') (without (in_frontier marks) l)) list-now
        ∙ ap (map (entry_of (memory_width sh) sh.timed names times')) (sym holding.list)

    few-now : left.count ≤ r.queue.count
    few-now =
        let c = slots_length left times' line' in
        let n = ap length holding.list in
        let w = length_without (in_frontier marks) (slots_of r.queue times' line) in
        let k = slots_length r.queue times' line in
        omega arith

    left-reads : Reads (painted_record r left false) (mem names marks times' line') sh (painted_with st (outside f st.queue) f)
    left-reads =
        painted-reads g d.unpainted left false (mem names marks times' line') (outside f st.queue) f v.same (omega (arith, a.long, long-times, g.for_times)) (omega (arith, v.long, long-line, g.for_line))
        p.table p.seen_same holding.good queue-now (λ s h. seen-now s (left_in s h)) (omega (arith, holding.next, few-now, queue-length g, d.waited, g.admitted)) ff (λ e. clash e refl)

  pub leaves : {r' : Record} → Ends r left false r' → Leaves r store names marks times times' line line' r'
  leaves {r'} e = record {
    long-times = a.long;
    long-line = v.long;
    failed = e.failed;
    reads = λ m sh st graph f d p o tm ff.
        subst (λ (x : Record). Reads x (mem names marks times' line') sh (painted_with st (outside f st.queue) f))
        (sym (e.is (omega (arith, d.few)) (omega (arith, d.few, count_low d.reads)) (few-now m sh st graph f d p o tm ff)))
        (left-reads m sh st graph f d p o tm ff);
  }
