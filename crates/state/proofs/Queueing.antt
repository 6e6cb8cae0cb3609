-- A state with another queue: where the new queue is right, holds seen slots and keeps its numbers small, the memory reads as the same state
-- with the entries of those slots. So a slot that joins is its entry put into the model's queue, by the same order of seconds; and the
-- seconds of a slot that does not wait may be set down first, since nothing reads them. Assumes nothing.
use mathlib.Core.Path.{◌≡◌, refl, sym, ap, ◌∙◌, subst}
use mathlib.Core.Logic.{◌⊎◌, ⊎_elim}
use Prim.Native.Nat.{ℕ, suc, ◌+◌, ◌≤◌, ◌<◌}
use mathlib.Core.Bool.{Bool, true, false, cond}
use mathlib.Core.List.{List, [], ◌∷◌, map}
use native.Mathlib.Omega.{arith}
use lib.ListN.{length, get_or, set, length-set}
use lib.Seq.{get_or-set_same, get_or-set_other}
use lib.IntN.{ℤ, pos}
use Rattle.hash.specs.Bytes.{Id}
use Rattle.hash.proofs.Tests.{clash}
use Rattle.hashtable.specs.Marks.{seen}
use Rattle.revwalk.specs.declared.queue.Queue.{Queue}
use Rattle.revwalk.specs.Order.{sooner, ahead, never, insert_by, In}
use Rattle.revwalk.specs.Queue.{before, slots_of, GoodQueue, Alike, Joins, Pushes, PutsBack}
use Rattle.revwalk.proofs.QueueSorts.{in_insert}
use Rattle.walk.specs.State.{State, queued}
use Rattle.walk.specs.Next.{dropped}
use Rattle.state.specs.declared.Record.{Record}
use Rattle.state.specs.Reads.{Shape, memory_width, entry_of, waiting, Reads}
use Rattle.state.specs.declared.Waiting.{Waiting}
use Rattle.state.specs.Shapes.{before_of, joins, back_to, requeued, waiting_in}
use Rattle.state.specs.Steps.{mem, NotWaiting, LineKept, Waits, Drops}
use Rattle.state.proofs.Entries.{map_insert}
use Rattle.state.proofs.States.{Elsewhere, agrees_likewise, elsewhere, elsewhere-waiting}

-- the same state with another queue, graph kept or dropped, and number of commits admitted
abbrev pub changed : State → List (Id × ℤ) → Bool → ℕ → State
changed st l c n = record {
  queue = l;
  seen = st.seen;
  frontier = st.frontier;
  painted = st.painted;
  kept = c;
  admitted = n;
  struck = st.struck;
}

module _ {r : Record} {names marks : List ℕ} {times : List ℤ} {line : List ℕ} {sh : Shape} {st : State} (g : Reads r (mem names marks times line) sh st) where
  -- ---- another queue
  pub requeue : (q : Queue) (line' : List ℕ) (c c' : Bool) (n n' : ℕ) (l : List (Id × ℤ)) → Alike r.queue q → length line' ≡ length line → GoodQueue q times line'
      → c' ≡ c → n' ≡ n → q.next ≤ n + cond c 0 1 → l ≡ map (entry_of (memory_width sh) sh.timed names times) (slots_of q times line')
      → ((s : ℕ) → In s (slots_of q times line') → seen (get_or marks s 0) ≡ true) → (r.failed ≡ true → slots_of q times line' ≡ [])
      → Reads (requeued r q c n) (mem names marks times line') sh (changed st l c' n')
  requeue q line' c c' n n' l a long good ec en next el seens empty = record {
    alive = g.alive;
    timed = a.timed ∙ g.timed;
    newest = a.newest ∙ g.newest;
    cap = a.cap ∙ g.cap;
    fixed = g.fixed;
    for_times = g.for_times;
    for_line = omega (arith, long, g.for_line);
    table = g.table;
    good = good;
    queue = el;
    waits-seen = seens;
    numbers = next;
    seen-is = g.seen-is;
    frontier-is = g.frontier-is;
    only_seen = g.only_seen;
    failed-empty = empty;
    painted = g.painted;
    kept = ec;
    admitted = en;
    struck = g.struck;
  }

  -- ---- the order of waiting slots is that of their entries
  orders : (t w : Bool) (a b : ℕ) → cond t (ahead w times) never a b ≡ cond t (sooner w (cond t (get_or times a (pos 0)) (pos 0)) (cond t (get_or times b (pos 0)) (pos 0))) false
  orders true w a b = refl
  orders false w a b = refl

  before-entry : (a b : ℕ) → before r.queue times a b ≡ before_of sh (entry_of (memory_width sh) sh.timed names times a).1 (entry_of (memory_width sh) sh.timed names times b).1
  unfolding before before_of
  before-entry a b = let p = g.timed in let q = g.newest in rw (p, q) (orders sh.timed sh.newest a b)

  pub insert_entry : (slot : ℕ) → map (entry_of (memory_width sh) sh.timed names times) (insert_by (before r.queue times) slot (slots_of r.queue times line)) ≡ queued (before_of sh) (entry_of (memory_width sh) sh.timed names times slot) st.queue
  insert_entry slot =
      map_insert (entry_of (memory_width sh) sh.timed names times) (before r.queue times) (before_of sh) slot (before-entry slot) (slots_of r.queue times line)
      ∙ ap (queued (before_of sh) (entry_of (memory_width sh) sh.timed names times slot)) (sym g.queue)

  -- ---- a slot joins
  few : (b : Bool) → cond b 0 1 ≤ 1
  few true = omega arith
  few false = omega arith

  pub join : {slot : ℕ} {l line' : List ℕ} {q : Queue} (x : Id) (c c' : Bool) (n n' : ℕ) (es : List (Id × ℤ)) → Joins r.queue times slot l line line' q
      → r.failed ≡ false → NotWaiting r (mem names marks times line) sh x slot → r.admitted + 2 < 4294967296
      → c' ≡ c → n' ≡ n → r.queue.next + 1 ≤ n + cond c 0 1 → es ≡ map (entry_of (memory_width sh) sh.timed names times) l
      → ((s : ℕ) → In s l → (s ≡ slot) ⊎ In s (slots_of r.queue times line))
      → Reads (requeued r q c n) (mem names marks times line') sh (changed st es c' n')
  join {slot} {l} {line'} {q} x c c' n n' es j f w b ec en next el members =
      let low : slot < r.queue.cap = subst (λ (k : ℕ). slot < k) (sym g.cap) w.low in
      let d = j.joined g.good low w.apart (omega (arith, g.numbers, few r.kept)) in
      requeue q line' c c' n n' es j.same j.long d.good ec en (omega (arith, j.next))
      (el ∙ ap (map (entry_of (memory_width sh) sh.timed names times)) (sym d.list))
      (λ s h. ⊎_elim (λ e. ap (λ (k : ℕ). seen (get_or marks k 0)) e ∙ w.marked) (g.waits-seen s) (members s (subst (In s) d.list h)))
      (λ e. clash e f)

-- ---- the seconds of a slot that does not wait

module _ (times : List ℤ) (slot : ℕ) (v : ℤ) where
  -- set down in a queue by time
  abbrev stored : Bool → List ℤ
  stored b = cond b (set times slot v) times

  pub length-stored : (b : Bool) → length (stored b) ≡ length times
  length-stored true = length-set times slot v
  length-stored false = refl

  stored_other : (b : Bool) (z : ℕ) → (z ≡ slot → ⊥) → get_or times z (pos 0) ≡ get_or (stored b) z (pos 0)
  stored_other true z n = sym (get_or-set_other times slot z v (pos 0) n)
  stored_other false z n = refl

  stored-this : (b : Bool) → slot < length times → cond b (get_or (stored b) slot (pos 0)) (pos 0) ≡ cond b v (pos 0)
  stored-this true h = get_or-set_same times slot v (pos 0) h
  stored-this false h = refl

  module _ {r : Record} {names marks line : List ℕ} {sh : Shape} {st : State} (g : Reads r (mem names marks times line) sh st) (b : Bool) (n : In slot (waiting r (mem names marks times line)) → ⊥) where
    stores : Elsewhere (memory_width sh) r (mem names marks times line) (mem names marks (stored b) line) sh.cap
    stores = record {
      sized = g.table.sized;
      for_times = omega (arith, length-stored b, g.for_times);
      for_line = g.for_line;
      table = agrees_likewise (record { mark = λ k l. refl; id = λ k l a. refl });
      times = λ s h. stored_other b s (λ e. n (subst (λ (k : ℕ). In k (waiting r (mem names marks times line))) e h));
      line = λ k h. refl;
    }

    pub stored-reads : Reads r (mem names marks (stored b) line) sh st
    stored-reads = elsewhere g stores

    pub stored-waiting : {x : Id} → NotWaiting r (mem names marks times line) sh x slot → NotWaiting r (mem names marks (stored b) line) sh x slot
    stored-waiting w = record {
      low = w.low;
      holds = w.holds;
      marked = w.marked;
      apart = λ h. w.apart (subst (In slot) (sym (elsewhere-waiting g stores)) h);
    }

-- ---- wait

joins-line : {r : Record} {times : List ℤ} {slot : ℕ} {l line line' : List ℕ} {q : Queue} → Joins r.queue times slot l line line' q → LineKept r line line'
joins-line j = record { long = j.long; kept = j.kept }

module _ {r : Record} (times : List ℤ) {line line' : List ℕ} {slot : ℕ} (v : ℤ) {q : Queue} (j : Pushes r.queue (cond r.queue.timed (set times slot v) times) slot line line' q) where
  waits-joined : (names marks : List ℕ) (sh : Shape) (st : State) (x : Id) → Reads r (mem names marks times line) sh st → r.failed ≡ false
      → NotWaiting r (mem names marks times line) sh x slot → r.admitted + 2 < 4294967296
      → Reads (requeued r q r.kept (r.admitted + 1)) (mem names marks (cond r.queue.timed (set times slot v) times) line') sh (joins (before_of sh) st x (cond sh.timed v (pos 0)))
  unfolding joins
  waits-joined names marks sh st x g f w b =
      let t = r.queue.timed in
      let g' = stored-reads times slot v g t w.apart in
      let w' = stored-waiting times slot v g t w.apart w in
      let there : cond sh.timed (get_or (cond t (set times slot v) times) slot (pos 0)) (pos 0) ≡ cond sh.timed v (pos 0) = subst (λ (s : Bool). cond s (get_or (cond t (set times slot v) times) slot (pos 0)) (pos 0) ≡ cond s v (pos 0)) g.timed (stored-this times slot v t (omega (arith, w.low, g.for_times))) in
      let entry : entry_of (memory_width sh) sh.timed names (cond t (set times slot v) times) slot ≡ (x, cond sh.timed v (pos 0)) = ap {B = Id × ℤ} (λ (y : Id). (y, cond sh.timed (get_or (cond t (set times slot v) times) slot (pos 0)) (pos 0))) w.holds ∙ ap {B = Id × ℤ} (λ (u : ℤ). (x, u)) there in
      join g' x r.kept st.kept (r.admitted + 1) (suc st.admitted) (queued (before_of sh) (x, cond sh.timed v (pos 0)) st.queue) j f w' b g.kept (omega (arith, g.admitted)) (omega (arith, g.numbers))
      (ap (λ (y : Id × ℤ). queued (before_of sh) y st.queue) (sym entry) ∙ sym (insert_entry g' slot))
      (λ s h. in_insert (before r.queue (cond t (set times slot v) times)) slot s (slots_of r.queue (cond t (set times slot v) times) line) h)

  waits-then : Waits r times (cond r.queue.timed (set times slot v) times) line line' slot v (requeued r q r.kept (r.admitted + 1))
  waits-then = record {
    long-times = length-stored times slot v r.queue.timed;
    for_line = joins-line j;
    failed = refl;
    joined = λ names marks sh st x g f w c b. waits-joined names marks sh st x g f w b;
  }

pub waits_pushed : {r : Record} (times : List ℤ) {times' : List ℤ} {line line' : List ℕ} (slot : ℕ) (v : ℤ) {q : Queue} → times' ≡ cond r.queue.timed (set times slot v) times
    → Pushes r.queue times' slot line line' q → Waits r times times' line line' slot v (requeued r q r.kept (r.admitted + 1))
waits_pushed {r} times {times'} {line} {line'} slot v {q} e j =
    subst (λ (t : List ℤ). Waits r times t line line' slot v (requeued r q r.kept (r.admitted + 1))) (sym e)
    (waits-then times v (subst (λ (t : List ℤ). Pushes r.queue t slot line line' q) e j))

-- a slot or a count is too large: nothing is changed
pub waits-not : {r : Record} {times : List ℤ} {line : List ℕ} {slot : ℕ} {v : ℤ} → (((sh : Shape) → slot < sh.cap → sh.cap ≤ 4294967296 → r.admitted + 2 < 4294967296 → ⊥)) → Waits r times times line line slot v r
waits-not n = record {
  long-times = refl;
  for_line = record { long = refl; kept = λ k h. refl };
  failed = refl;
  joined = λ names marks sh st x g f w c b. absurd (n sh w.low c b);
}

-- what waits in a record stands for the record
pub waits_of : {r : Record} {w : Waiting} {times times' : List ℤ} {line line' : List ℕ} {slot : ℕ} {v : ℤ} {r' : Record} → waiting_in r w ≡ r → Waits (waiting_in r w) times times' line line' slot v r' → Waits r times times' line line' slot v r'
waits_of {times = times} {times' = times'} {line = line} {line' = line'} {slot = slot} {v = v} {r' = r'} e h = subst (λ (z : Record). Waits z times times' line line' slot v r') e h

-- ---- drop_graph

module _ {r : Record} {times : List ℤ} {line line' : List ℕ} {slot : ℕ} {q : Queue} (j : PutsBack r.queue times slot line line' q) where
  module _ {names marks : List ℕ} {sh : Shape} {st : State} (g : Reads r (mem names marks times line) sh st) where
    back-entry : map (entry_of (memory_width sh) sh.timed names times) (cond r.queue.timed (insert_by (before r.queue times) slot (slots_of r.queue times line)) (slot ∷ slots_of r.queue times line)) ≡ back_to sh (entry_of (memory_width sh) sh.timed names times slot) st.queue
    unfolding back_to
    back-entry =
        ap (λ (b : Bool). map (entry_of (memory_width sh) sh.timed names times) (cond b (insert_by (before r.queue times) slot (slots_of r.queue times line)) (slot ∷ slots_of r.queue times line))) g.timed
        ∙ go sh.timed
      where
        go : (t : Bool) → map (entry_of (memory_width sh) sh.timed names times) (cond t (insert_by (before r.queue times) slot (slots_of r.queue times line)) (slot ∷ slots_of r.queue times line)) ≡ cond t (queued (before_of sh) (entry_of (memory_width sh) sh.timed names times slot) st.queue) (entry_of (memory_width sh) sh.timed names times slot ∷ st.queue)
        go true = insert_entry g slot
        go false = ap (λ (l : List (Id × ℤ)). entry_of (memory_width sh) sh.timed names times slot ∷ l) (sym g.queue)

    back_in : (t : Bool) (s : ℕ) → In s (cond t (insert_by (before r.queue times) slot (slots_of r.queue times line)) (slot ∷ slots_of r.queue times line)) → (s ≡ slot) ⊎ In s (slots_of r.queue times line)
    unfolding In
    back_in true s h = in_insert (before r.queue times) slot s (slots_of r.queue times line) h
    back_in false s h = h

  drops-back : (names marks : List ℕ) (sh : Shape) (st : State) (x : Id) (t : ℤ) → Reads r (mem names marks times line) sh st → r.failed ≡ false → r.kept ≡ true
      → NotWaiting r (mem names marks times line) sh x slot → entry_of (memory_width sh) sh.timed names times slot ≡ (x, t) → r.admitted + 2 < 4294967296
      → Reads (requeued r q false r.admitted) (mem names marks times line') sh (dropped (back_to sh (x, t) st.queue) st)
  unfolding dropped
  drops-back names marks sh st x t g f k w e b =
      let numbers : r.queue.next ≤ r.admitted + 0 = subst (λ (c : Bool). r.queue.next ≤ r.admitted + cond c 0 1) k g.numbers in
      join g x false false r.admitted st.admitted (back_to sh (x, t) st.queue) j f w b refl g.admitted (omega arith)
      (ap (λ (y : Id × ℤ). back_to sh y st.queue) (sym e) ∙ sym (back-entry g))
      (back_in g r.queue.timed)

  pub drops-put : Drops r times line line' slot (requeued r q false r.admitted)
  drops-put = record { for_line = joins-line j; failed = refl; reads = drops-back }
