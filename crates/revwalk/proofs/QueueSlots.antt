-- For callers: the empty queue, the list's members, what changes elsewhere leave as it is, what a pop told, and the slots as they stand in memory.
use Rattle.std.specs.Prelude.{Some}
use mathlib.Core.Path.{◌≡◌, refl, sym, ap, ◌∙◌, subst}
use mathlib.Core.Logic.{inl, ⊎_elim}
use mathlib.Core.List.{List, [], ◌∷◌, Permᴰ}
use mathlib.Core.Bool.{Bool, true, false}
use Prim.Native.Nat.{ℕ, ◌+◌, ◌≤◌, ◌<◌}
use native.Mathlib.Omega.{arith}
use lib.ListN.{length, take, drop, set, get_or, length-drop}
use lib.Seq.{get_or-set_other, get_or-take, get_or-drop, ext_get_or}
use lib.IntN.{ℤ, pos}
use Rattle.revwalk.specs.declared.queue.Queue.{Queue}
use Rattle.revwalk.specs.declared.queue.Popped.{Popped}
use Rattle.revwalk.specs.Order.{at, seconds_of, seq_of, goes, sort_at, never, listed, In, Once}
use Rattle.revwalk.specs.Sift.{par}
use Rattle.hashtable.specs.Table.{wrap}
use Rattle.revwalk.specs.Queue.{Heap, Ring, GoodQueue, Joins, Pushes, PutsBack, Pops, queued, ring_at, place_of, turn_of, slots_of}
use Rattle.revwalk.proofs.QueueSorts.{no_both, sort_agree, once_sort, perm_sort}
use Rattle.revwalk.proofs.QueueShares.{heap_as}
use Rattle.revwalk.proofs.QueueGood.{either, place-timed, slots-timed, slots-ring, slots-in, in-slots, good-slots}
use Rattle.revwalk.proofs.QueueRing.{wrap-in, pick_yes, pick_no}

-- ---- the empty queue
pub emptied : (q : Queue) (times : List ℤ) (line : List ℕ) → q.count ≡ 0 → q.head ≡ 0 → q.cap + q.cap ≤ length line → GoodQueue q times line
emptied q times line e h room =
    record {
      heap = λ d.
          record {
            room = room;
            size = omega arith;
            low = λ k l. absurd (omega arith);
            apart = λ i j l. absurd (omega arith);
            early = λ k l. absurd (omega arith);
            heap = record { edges = λ k k0 kn. absurd (omega arith) };
          };
      ring = λ d.
          record {
            room = room;
            size = omega arith;
            start = λ c. omega arith;
            slots = record { low = λ k l. absurd (omega arith); apart = λ i j l. absurd (omega arith) };
          };
    }

pub emptied-list : (q : Queue) (times : List ℤ) (line : List ℕ) → q.count ≡ 0 → slots_of q times line ≡ []
unfolding slots_of sort_at
emptied-list q times line e = ap (sort_at (turn_of q times line) (place_of q line)) e

-- ---- the list's members
module _ {q : Queue} {times : List ℤ} {line : List ℕ} (g : GoodQueue q times line) where
  pub slots-low : (z : ℕ) → In z (slots_of q times line) → z < q.cap
  slots-low z h = let p = in-slots q times line z h in subst (λ (x : ℕ). x < q.cap) p.is ((good-slots g).low p.k p.low)

  pub slots-once : Once (slots_of q times line)
  unfolding slots_of
  slots-once = once_sort (turn_of q times line) (place_of q line) q.count (good-slots g).apart

-- ---- the slots as they stand in memory
pub rearranged : (q : Queue) (times : List ℤ) (line : List ℕ) → Permᴰ (listed (place_of q line) q.count) (slots_of q times line)
unfolding slots_of
rearranged q times line = perm_sort (turn_of q times line) (place_of q line) q.count

-- ---- seconds of slots that do not wait may change
module _ (newest : Bool) (times times' : List ℤ) (line : List ℕ) (cap n : ℕ) (same : (k : ℕ) → k < n → seconds_of times (at line k) ≡ seconds_of times' (at line k)) where
  goes-times : (i j : ℕ) → i < n → j < n → goes newest times cap line (at line i) (at line j) ≡ goes newest times' cap line (at line i) (at line j)
  unfolding goes
  goes-times i j hi hj = let p = same i hi in let q = same j hj in rw (p, q)

  times-heap : (next : ℕ) → Heap newest times line cap n next → Heap newest times' line cap n next
  times-heap next q =
      record {
        room = q.room;
        size = q.size;
        low = q.low;
        apart = q.apart;
        early = q.early;
        heap = heap_as (goes newest times cap line) (goes newest times' cap line) (at line) n goes-times q.heap;
      }

  times-queued : queued newest times line cap n ≡ queued newest times' line cap n
  unfolding queued
  times-queued = sort_agree (goes newest times cap line) (goes newest times' cap line) (at line) (at line) n (λ k h. refl) goes-times

module _ (q : Queue) (times times' : List ℤ) (line : List ℕ) (same : (z : ℕ) → In z (slots_of q times line) → seconds_of times z ≡ seconds_of times' z) where
  same_at : q.timed ≡ true → (k : ℕ) → k < q.count → seconds_of times (at line k) ≡ seconds_of times' (at line k)
  same_at e k h = same (at line k) (slots-in q times line (at line k) k h (ap (λ (p : ℕ → ℕ). p k) (place-timed q line e)))

  pub times-good : GoodQueue q times line → GoodQueue q times' line
  times-good g = record { heap = λ e. times-heap q.newest times times' line q.cap q.count (same_at e) q.next (g.heap e); ring = g.ring }

  pub times-list : slots_of q times line ≡ slots_of q times' line
  times-list =
      ⊎_elim
      (λ e. slots-timed q times line e ∙ times-queued q.newest times times' line q.cap q.count (same_at e) ∙ sym (slots-timed q times' line e))
      (λ e. slots-ring q times line e ∙ sym (slots-ring q times' line e))
      (either q.timed)

-- the seconds of one slot that does not wait
pub times_set : (q : Queue) (times : List ℤ) (line : List ℕ) (s : ℕ) (v : ℤ) → (In s (slots_of q times line) → ⊥) → (z : ℕ) → In z (slots_of q times line) → seconds_of times z ≡ seconds_of (set times s v) z
times_set q times line s v fresh z h =
    sym (get_or-set_other times s z v (pos 0) (λ e. fresh (subst (λ (x : ℕ). In x (slots_of q times line)) e h)))

-- a ring does not look at seconds
module _ (q : Queue) (times times' : List ℤ) (line : List ℕ) (e : q.timed ≡ false) where
  pub ring-good : GoodQueue q times line → GoodQueue q times' line
  ring-good g = record { heap = λ d. no_both d e; ring = g.ring }

  pub ring-list : slots_of q times line ≡ slots_of q times' line
  ring-list = slots-ring q times line e ∙ sym (slots-ring q times' line e)

-- ---- the memory past the two areas may change
module _ (newest : Bool) (times : List ℤ) (line line' : List ℕ) (cap n next : ℕ) (q : Heap newest times line cap n next) (same : (k : ℕ) → k < cap + cap → at line k ≡ at line' k) where
  slot_same : (k : ℕ) → k < n → at line k ≡ at line' k
  slot_same k h = same k (omega (arith, q.size))

  seq-same : (k : ℕ) → k < n → seq_of line cap (at line k) ≡ seq_of line' cap (at line k)
  seq-same k h = same (cap + at line k) (omega (arith, q.low k h))

  seq-at : (k : ℕ) → k < n → seq_of line cap (at line k) ≡ seq_of line' cap (at line' k)
  seq-at k h = seq-same k h ∙ ap (seq_of line' cap) (slot_same k h)

  goes-line : (i j : ℕ) → i < n → j < n → goes newest times cap line (at line i) (at line j) ≡ goes newest times cap line' (at line i) (at line j)
  unfolding goes
  goes-line i j hi hj = let p = seq-same i hi in let r = seq-same j hj in rw (p, r)

  goes-both : (i j : ℕ) → i < n → j < n → goes newest times cap line (at line i) (at line j) ≡ goes newest times cap line' (at line' i) (at line' j)
  goes-both i j hi hj = goes-line i j hi hj ∙ ap (λ (x : ℕ). goes newest times cap line' x (at line j)) (slot_same i hi) ∙ ap (goes newest times cap line' (at line' i)) (slot_same j hj)

  line-heap : cap + cap ≤ length line' → Heap newest times line' cap n next
  line-heap h =
      record {
        room = h;
        size = q.size;
        low = λ k l. subst (λ (x : ℕ). x < cap) (slot_same k l) (q.low k l);
        apart = λ i j hi hj e. q.apart i j hi hj (seq-at i hi ∙ e ∙ sym (seq-at j hj));
        early = λ k l. subst (λ (x : ℕ). x < next) (seq-at k l) (q.early k l);
        heap = record { edges = λ k k0 kn. sym (goes-both (par k) k (omega arith) kn) ∙ q.heap.edges k k0 kn };
      }

  line-queued : queued newest times line cap n ≡ queued newest times line' cap n
  unfolding queued
  line-queued = sort_agree (goes newest times cap line) (goes newest times cap line') (at line) (at line') n slot_same goes-line

module _ (line line' : List ℕ) (cap head n : ℕ) (q : Ring line cap head n) (same : (k : ℕ) → k < cap + cap → at line k ≡ at line' k) where
  place_same : (k : ℕ) → k < n → ring_at line cap head k ≡ ring_at line' cap head k
  place_same k h =
      let size = q.size in
      same (wrap cap (head + k)) (omega (arith, wrap-in cap head k (q.start (omega arith)) (omega arith)))

  line-ring : cap + cap ≤ length line' → Ring line' cap head n
  line-ring h =
      record {
        room = h;
        size = q.size;
        start = q.start;
        slots = record {
          low = λ k l. subst (λ (x : ℕ). x < cap) (place_same k l) (q.slots.low k l);
          apart = λ i j hi hj e. q.slots.apart i j hi hj (place_same i hi ∙ e ∙ sym (place_same j hj));
        };
      }

  line-placed : sort_at never (ring_at line cap head) n ≡ sort_at never (ring_at line' cap head) n
  line-placed = sort_agree never never (ring_at line cap head) (ring_at line' cap head) n place_same (λ i j hi hj. refl)

module _ {q : Queue} {times : List ℤ} {line : List ℕ} (g : GoodQueue q times line) (line' : List ℕ) (same : (k : ℕ) → k < q.cap + q.cap → at line k ≡ at line' k) where
  pub line-good : q.cap + q.cap ≤ length line' → GoodQueue q times line'
  line-good h =
      record {
        heap = λ e. line-heap q.newest times line line' q.cap q.count q.next (g.heap e) same h;
        ring = λ e. line-ring line line' q.cap q.head q.count (g.ring e) same h;
      }

  pub line-list : slots_of q times line ≡ slots_of q times line'
  line-list =
      ⊎_elim
      (λ e. slots-timed q times line e ∙ line-queued q.newest times line line' q.cap q.count q.next (g.heap e) same ∙ sym (slots-timed q times line' e))
      (λ e. slots-ring q times line e ∙ line-placed line line' q.cap q.head q.count (g.ring e) same ∙ sym (slots-ring q times line' e))
      (either q.timed)

-- the same up to n, the same at each place below n
pub same-front : (line line' : List ℕ) (n : ℕ) → take n line ≡ take n line' → (k : ℕ) → k < n → at line k ≡ at line' k
same-front line line' n e k h = sym (get_or-take n line k 0 h) ∙ ap (λ (l : List ℕ). get_or l k 0) e ∙ get_or-take n line' k 0 h

-- the same at each place from n on, the same from n on
pub same_rest : (line line' : List ℕ) (n : ℕ) → length line' ≡ length line → ((k : ℕ) → n ≤ k → at line' k ≡ at line k) → drop n line' ≡ drop n line
same_rest line line' n long kept =
    ext_get_or 0 (drop n line') (drop n line) (simp length-drop (omega arith)) (λ i h. get_or-drop n line' i 0 ∙ kept (n + i) (omega arith) ∙ sym (get_or-drop n line i 0))

-- ---- what a pop told
module _ {q : Queue} {times : List ℤ} {line out : List ℕ} {r : Popped} (p : Pops q times line out (Some r)) (g : GoodQueue q times line) where
  -- the slot that was handed out does not wait any more, so it may be put back
  pub pop-gone : In r.slot (slots_of r.queue times out) → ⊥
  unfolding Once
  pop-gone h = (subst Once (p.told.took g).list (slots-once g)).0 h

  pub pop-low : r.slot < r.queue.cap
  unfolding In
  pop-low =
      let first : In r.slot (slots_of q times line) = subst (In r.slot) (sym (p.told.took g).list) (inl refl) in
      subst (λ (c : ℕ). r.slot < c) (sym p.told.same.cap) (slots-low g r.slot first)

-- ---- what put_back did
module _ {q : Queue} {times : List ℤ} {slot : ℕ} {line out : List ℕ} {r : Queue} (b : PutsBack q times slot line out r) where
  pub back-push : q.timed ≡ true → Pushes q times slot line out r
  back-push e = subst (λ (l : List ℕ). Joins q times slot l line out r) (sym (pick_yes _ _ e)) b

  pub back-front : q.timed ≡ false → Joins q times slot (slot ∷ slots_of q times line) line out r
  back-front e = subst (λ (l : List ℕ). Joins q times slot l line out r) (sym (pick_no _ _ e)) b
