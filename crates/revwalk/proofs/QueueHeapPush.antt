-- What push does to the heap's list, from what sift_up does to the heap: the list with the slot put in, since the new number is above all others.
use mathlib.Core.Path.{◌≡◌, refl, sym, ap, ◌∙◌, subst}
use mathlib.Core.Logic.{⊎_elim}
use mathlib.Core.List.{List}
use mathlib.Core.Bool.{Bool}
use Prim.Native.Nat.{ℕ, suc, ◌+◌, ◌/◌, ◌≤◌, ◌<◌}
use native.Mathlib.Omega.{arith}
use lib.ListN.{length, set, length-set}
use lib.IntN.{ℤ}
use Rattle.revwalk.specs.Order.{at, seq_of, ahead, goes, insert_by, sort_at, In}
use Rattle.revwalk.specs.Sift.{Total, Up, Settled, Rose}
use Rattle.revwalk.specs.Queue.{Heap, queued}
use Rattle.revwalk.proofs.QueueSorts.{same?, in_sort, insert_agree, sort_agree, sort_mixed, mix_apart}
use Rattle.revwalk.proofs.QueueSifts.{up-begin}
use Rattle.revwalk.proofs.QueueOrders.{goes-asym, goes-trans, goes-late, goes_same, total}
use Rattle.revwalk.proofs.QueueMoves.{set_at, set_off}
use Rattle.revwalk.proofs.QueueShares.{mix_all, heap_as, goes_as}

module _ (newest : Bool) (times : List ℤ) (cap n next slot : ℕ) (line out : List ℕ) (hc : cap ≤ length line / 2) (hn : n < cap) (hs : slot < cap) (long : length out ≡ length line) (rose : Rose (goes newest times cap) cap n slot (set line (cap + slot) next) out) (q : Heap newest times line cap n next) (fresh : (k : ℕ) → k < n → at line k ≡ slot → ⊥) where
  v : ℕ → ℕ
  v = at (set (set line (cap + slot) next) n slot)

  lt : ℕ → ℕ → Bool
  lt = goes newest times cap line

  lt₁ : ℕ → ℕ → Bool
  lt₁ = goes newest times cap (set line (cap + slot) next)

  v-old : (k : ℕ) → k < n → v k ≡ at line k
  unfolding v
  v-old k h =
      let d : k ≡ n → ⊥ = λ e. omega arith in
      let d2 : k ≡ cap + slot → ⊥ = λ e. omega arith in
      set_off (set line (cap + slot) next) n k slot d ∙ set_off line (cap + slot) k next d2

  v-new : v n ≡ slot
  unfolding v
  v-new = set_at (set line (cap + slot) next) n slot (rw length-set (omega arith))

  seq-new : at (set line (cap + slot) next) (cap + slot) ≡ next
  seq-new = set_at line (cap + slot) next (omega arith)

  seq-old : (k : ℕ) → k < n → at (set line (cap + slot) next) (cap + at line k) ≡ seq_of line cap (at line k)
  seq-old k h =
      let d : cap + at line k ≡ cap + slot → ⊥ = λ e. fresh k h (omega arith) in
      set_off line (cap + slot) (cap + at line k) next d

  goes-old : (i j : ℕ) → i < n → j < n → lt (at line i) (at line j) ≡ lt₁ (at line i) (at line j)
  unfolding lt lt₁
  goes-old i j hi hj = goes_same newest times line (set line (cap + slot) next) cap (at line i) (at line j) (sym (seq-old i hi)) (sym (seq-old j hj))

  seq₁ : ℕ → ℕ
  seq₁ = seq_of (set line (cap + slot) next) cap

  seq-v : (k : ℕ) → k < n → seq₁ (v k) ≡ seq_of line cap (at line k)
  unfolding seq₁
  seq-v k h = ap (seq_of (set line (cap + slot) next) cap) (v-old k h) ∙ seq-old k h

  seq-n : seq₁ (v n) ≡ next
  unfolding seq₁
  seq-n = ap (seq_of (set line (cap + slot) next) cap) v-new ∙ seq-new

  less : (k : ℕ) → k < n + 1 → (k ≡ n → ⊥) → k < n
  less k h d = omega arith

  v-early : (k : ℕ) → k < n + 1 → seq₁ (v k) < next + 1
  v-early k h =
      ⊎_elim
      (λ e. omega (arith, ap (λ (x : ℕ). seq₁ (v x)) e, seq-n))
      (λ d. omega (arith, seq-v k (less k h d), q.early k (less k h d)))
      (same? k n)

  v_low : (k : ℕ) → k < n + 1 → v k < cap
  v_low k h =
      ⊎_elim
      (λ e. subst (λ (x : ℕ). x < cap) (sym (ap v e ∙ v-new)) hs)
      (λ d. subst (λ (x : ℕ). x < cap) (sym (v-old k (less k h d))) (q.low k (less k h d)))
      (same? k n)

  v-apart : (i j : ℕ) → i < n + 1 → j < n + 1 → seq₁ (v i) ≡ seq₁ (v j) → i ≡ j
  v-apart i j hi hj e =
      ⊎_elim
      (λ p.
      ⊎_elim
      (λ r. p ∙ sym r)
      (λ r. absurd (omega (arith, q.early j (less j hj r), seq-v j (less j hj r), e, ap (λ (x : ℕ). seq₁ (v x)) p, seq-n)))
      (same? j n))
      (λ p.
      ⊎_elim
      (λ r. absurd (omega (arith, q.early i (less i hi p), seq-v i (less i hi p), e, ap (λ (x : ℕ). seq₁ (v x)) r, seq-n)))
      (λ r. q.apart i j (less i hi p) (less j hj r) (sym (seq-v i (less i hi p)) ∙ e ∙ seq-v j (less j hj r)))
      (same? j n))
      (same? i n)

  v-total : Total lt₁ v (n + 1)
  unfolding lt₁ seq₁
  v-total = total newest times (set line (cap + slot) next) cap v (n + 1) v-apart

  v-up : Up lt₁ v (n + 1) n
  unfolding lt lt₁
  v-up = up-begin lt₁ (goes-trans newest times (set line (cap + slot) next) cap) (at line) v n v-old (heap_as lt lt₁ (at line) n goes-old q.heap)

  settled : Settled lt₁ v (at out) (n + 1)
  unfolding lt₁ v
  settled = rose.right (n + 1) (omega arith) (omega arith) v-total v-up

  seq-out : (s : ℕ) → at (set line (cap + slot) next) (cap + s) ≡ at out (cap + s)
  seq-out s = sym (rose.kept (cap + s) (omega arith))

  goes-out : (a b : ℕ) → lt₁ a b ≡ goes newest times cap out a b
  unfolding lt₁
  goes-out = goes_as newest times (set line (cap + slot) next) out cap seq-out

  pub push-heap : Heap newest times out cap (n + 1) (next + 1)
  unfolding seq₁ lt₁
  push-heap =
      record {
        room = omega (arith, q.room, long);
        size = omega arith;
        low = mix_all (λ x. x < cap) settled.mixed v_low;
        apart = λ i j hi hj e. mix_apart seq₁ settled.mixed v-apart i j hi hj (seq-out (at out i) ∙ e ∙ sym (seq-out (at out j)));
        early = λ k h. subst (λ (x : ℕ). x < next + 1) (seq-out (at out k)) (mix_all (λ x. seq₁ x < next + 1) settled.mixed v-early k h);
        heap = heap_as lt₁ (goes newest times cap out) (at out) (n + 1) (λ i j hi hj. goes-out (at out i) (at out j)) settled.heap;
      }

  late : (z : ℕ) → In z (sort_at lt (at line) n) → lt₁ slot z ≡ ahead newest times slot z
  unfolding lt₁
  late z i =
      let p = in_sort lt (at line) n z i in
      let e = q.early p.k p.low in
      let f = seq-old p.k p.low in
      subst (λ (x : ℕ). goes newest times cap (set line (cap + slot) next) slot x ≡ ahead newest times slot x) p.is
      (goes-late newest times (set line (cap + slot) next) cap slot (at line p.k) (omega (arith, seq-new)))

  pub push-list : queued newest times out cap (n + 1) ≡ insert_by (ahead newest times) slot (queued newest times line cap n)
  unfolding queued sort_at lt lt₁
  push-list =
      sort_agree (goes newest times cap out) lt₁ (at out) (at out) (n + 1) (λ k h. refl) (λ i j hi hj. sym (goes-out (at out i) (at out j)))
      ∙ sym (sort_mixed lt₁ v (at out) (n + 1) (goes-asym newest times (set line (cap + slot) next) cap) (goes-trans newest times (set line (cap + slot) next) cap) v-total settled.mixed)
      ∙ ap (sort_at lt₁ v) one_more
      ∙ ap (λ (x : ℕ). insert_by lt₁ x (sort_at lt₁ v n)) v-new
      ∙ ap (insert_by lt₁ slot) (sym (sort_agree lt lt₁ (at line) v n (λ k h. sym (v-old k h)) goes-old))
      ∙ insert_agree lt₁ (ahead newest times) slot (sort_at lt (at line) n) late
    where
      one_more : n + 1 ≡ suc n
      one_more = omega arith
