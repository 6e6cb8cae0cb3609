-- A queue is a heap or a ring: its list and its places as those of the one or the other, and what holds of both. What a refusal is, and what
-- a slot that is handed out from the front of the list is.
use mathlib.Core.Path.{◌≡◌, refl, sym, ap, ◌∙◌, subst}
use mathlib.Core.Logic.{◌⊎◌, inl, inr, ⊎_elim}
use mathlib.Core.List.{List, [], ◌∷◌}
use Rattle.std.specs.Prelude.{Option, Some, None}
use mathlib.Core.Bool.{Bool, true, false, not}
use Prim.Native.Nat.{ℕ, suc, ◌+◌, ◌≤◌, ◌<◌}
use native.Mathlib.Omega.{arith}
use lib.ListN.{length}
use lib.IntN.{ℤ}
use Rattle.revwalk.specs.declared.queue.Queue.{Queue}
use Rattle.revwalk.specs.declared.queue.Popped.{Popped}
use Rattle.revwalk.specs.Order.{at, seq_of, ahead, never, sort_at, In}
use Rattle.revwalk.specs.Queue.{Heap, Slots, Ring, GoodQueue, Alike, Joins, Took, Pops, PopsOf, ReadsSlot, queued, ring_at, before, place_of, turn_of, slots_of}
use Rattle.revwalk.proofs.QueueSorts.{no_both, Place, in_sort, sort_in, length_sort}
use Rattle.revwalk.proofs.QueueRoom.{room-left}

pub either : (b : Bool) → (b ≡ true) ⊎ (b ≡ false)
either true = inl refl
either false = inr refl

-- ---- a heap or a ring
module _ (q : Queue) (times : List ℤ) where
  pub before-timed : q.timed ≡ true → before q times ≡ ahead q.newest times
  unfolding before
  before-timed e = rw e

  pub before-ring : q.timed ≡ false → before q times ≡ never
  unfolding before
  before-ring e = rw e

pub before_alike : {q r : Queue} (times : List ℤ) → Alike q r → before r times ≡ before q times
unfolding before
before_alike times a = rw (a.timed, a.newest)

module _ (q : Queue) (line : List ℕ) where
  pub place-timed : q.timed ≡ true → place_of q line ≡ at line
  unfolding place_of
  place-timed e = rw e

  pub place-ring : q.timed ≡ false → place_of q line ≡ ring_at line q.cap q.head
  unfolding place_of
  place-ring e = rw e

module _ (q : Queue) (times : List ℤ) (line : List ℕ) where
  pub slots-timed : q.timed ≡ true → slots_of q times line ≡ queued q.newest times line q.cap q.count
  unfolding slots_of turn_of place_of queued
  slots-timed e = rw e

  pub slots-ring : q.timed ≡ false → slots_of q times line ≡ sort_at never (ring_at line q.cap q.head) q.count
  unfolding slots_of turn_of place_of
  slots-ring e = rw e

  pub of-heap : q.timed ≡ true → Heap q.newest times line q.cap q.count q.next → GoodQueue q times line
  of-heap e h = record { heap = λ d. h; ring = λ d. no_both e d }

  pub of-ring : q.timed ≡ false → Ring line q.cap q.head q.count → GoodQueue q times line
  of-ring e r = record { heap = λ d. no_both d e; ring = λ d. r }

  -- ---- the list's members and length
  pub slots-in : (z k : ℕ) → k < q.count → place_of q line k ≡ z → In z (slots_of q times line)
  unfolding slots_of
  slots-in z k h e = sort_in (turn_of q times line) (place_of q line) q.count z k h e

  pub in-slots : (z : ℕ) → In z (slots_of q times line) → Place (place_of q line) q.count z
  unfolding slots_of
  in-slots z h = in_sort (turn_of q times line) (place_of q line) q.count z h

  pub slots_length : length (slots_of q times line) ≡ q.count
  unfolding slots_of
  slots_length = length_sort (turn_of q times line) (place_of q line) q.count

heap-slots : {newest : Bool} {times : List ℤ} {line : List ℕ} {cap n next : ℕ} → Heap newest times line cap n next → Slots (at line) cap n
heap-slots {line = line} {cap = cap} h = record { low = h.low; apart = λ i j hi hj e. h.apart i j hi hj (ap (seq_of line cap) e) }

module _ {q : Queue} {times : List ℤ} {line : List ℕ} (g : GoodQueue q times line) where
  pub good-room : q.cap + q.cap ≤ length line
  good-room = ⊎_elim (λ e. (g.heap e).room) (λ e. (g.ring e).room) (either q.timed)

  pub good-size : q.count ≤ q.cap
  good-size = ⊎_elim (λ e. (g.heap e).size) (λ e. (g.ring e).size) (either q.timed)

  pub good-slots : Slots (place_of q line) q.cap q.count
  good-slots =
      ⊎_elim
      (λ e. subst (λ (f : ℕ → ℕ). Slots f q.cap q.count) (sym (place-timed q line e)) (heap-slots (g.heap e)))
      (λ e. subst (λ (f : ℕ → ℕ). Slots f q.cap q.count) (sym (place-ring q line e)) (g.ring e).slots)
      (either q.timed)

  -- there is room for a slot that does not wait
  pub good_left : (slot : ℕ) → slot < q.cap → (In slot (slots_of q times line) → ⊥) → q.count < q.cap
  good_left slot hs fresh = room-left (place_of q line) good-slots hs (λ k h e. fresh (slots-in q times line slot k h e))

no_own : (b : Bool) → b ≡ not b → ⊥
no_own true e = no_both refl e
no_own false e = no_both e refl

-- ---- a call that changes nothing
alike : (q : Queue) → Alike q q
alike q = record { timed = refl; newest = refl; cap = refl }

pub refused : {q : Queue} {times : List ℤ} {slot : ℕ} {l line : List ℕ} → (GoodQueue q times line → slot < q.cap → (In slot (slots_of q times line) → ⊥) → q.next + 1 < 4294967296 → ⊥) → Joins q times slot l line line q
refused {q} nay =
    record {
      long = refl;
      kept = λ k h. refl;
      same = alike q;
      next = omega arith;
      still = λ e. (refl, refl);
      joined = λ g s f n. absurd (nay g s f n);
    }

no_slots : (l : List ℕ) → length l ≡ 0 → l ≡ []
no_slots [] e = refl
no_slots (x ∷ l) e = absurd (omega arith)

pub pops-none : {q : Queue} {times : List ℤ} {line : List ℕ} → (GoodQueue q times line → q.count ≡ 0) → Pops q times line line None
pops-none {q} {times} {line} empty =
    record {
      long = refl;
      kept = λ k h. refl;
      told = (refl, λ g. no_slots (slots_of q times line) (slots_length q times line ∙ empty g));
    }

-- ---- pop of a heap alone, or of a ring
module _ {b : Bool} {q : Queue} {times : List ℤ} {line : List ℕ} where
  pub other_none : q.timed ≡ not b → PopsOf b q times line line None
  other_none n = record { own = λ o. absurd (no_own b (sym o ∙ n)); other = λ o. (refl, refl) }

  pub own-none : (q.timed ≡ b → GoodQueue q times line → q.count ≡ 0) → q.timed ≡ b → PopsOf b q times line line None
  own-none empty n = record { own = λ o. pops-none (empty o); other = λ o. absurd (no_own b (sym n ∙ o)) }

pub own-pops : {b : Bool} {q : Queue} {times : List ℤ} {line out : List ℕ} {p : Option Popped} → q.timed ≡ b → Pops q times line out p → PopsOf b q times line out p
own-pops {b} n o = record { own = λ k. o; other = λ k. absurd (no_own b (sym n ∙ k)) }

-- ---- the first of the list is handed out
pub pops-first : {q : Queue} {times : List ℤ} {line out : List ℕ} {r : Popped} → length out ≡ length line → ((k : ℕ) → q.cap + q.cap ≤ k → at out k ≡ at line k) → Alike q r.queue → r.queue.next ≡ q.next → r.slot ≡ place_of q line 0 → (GoodQueue q times line → Took q times line out r) → Pops q times line out (Some r)
pops-first long kept same next place took = record { long = long; kept = kept; told = record { same = same; next = next; first = place; took = took } }

-- ---- the slot at a place
pub reads-timed : {q : Queue} {line : List ℕ} {i r : ℕ} → q.timed ≡ true → r ≡ at line i → ReadsSlot q line i r
reads-timed {q} {line} {i} e is = record { is = λ times g h. is ∙ sym (ap (λ (p : ℕ → ℕ). p i) (place-timed q line e)) }

pub reads-ring : {q : Queue} {line : List ℕ} {i r : ℕ} → q.timed ≡ false → (q.head < q.cap → i < q.cap → r ≡ ring_at line q.cap q.head i) → ReadsSlot q line i r
reads-ring {q} {line} {i} e is =
    record {
      is = λ times g h.
          let size = (g.ring e).size in
          is ((g.ring e).start (omega arith)) (omega arith) ∙ sym (ap (λ (p : ℕ → ℕ). p i) (place-ring q line e));
    }
