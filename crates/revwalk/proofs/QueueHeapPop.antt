-- What taking the root out does to the heap's list, from what sink and sift_up do to the heap: the root goes first, and the list of the rest is left.
use mathlib.Core.Path.{◌≡◌, refl, sym, ap, ◌∙◌, subst}
use mathlib.Core.Logic.{⊎_elim}
use mathlib.Core.List.{List, ◌∷◌}
use mathlib.Core.Bool.{Bool, true}
use Prim.Native.Nat.{ℕ, suc, ◌+◌, ◌≤◌, ◌<◌}
use native.Mathlib.Omega.{arith}
use lib.ListN.{length, set, length-set}
use lib.IntN.{ℤ}
use Rattle.revwalk.specs.Order.{at, seq_of, goes, insert_by, sort_at}
use Rattle.revwalk.specs.Sift.{Shuffled, Total, Up, Down, Settled, Rose, Sank}
use Rattle.revwalk.specs.Queue.{Heap, Unrooted, queued}
use Rattle.revwalk.proofs.QueueSorts.{same?, in_sort, insert_first, sort_agree, sort_mixed, mix_trans, mix_apart}
use Rattle.revwalk.proofs.QueueSifts.{Swapped, mix_swap, down-begin, root-first}
use Rattle.revwalk.proofs.QueueOrders.{goes-asym, goes-trans, total}
use Rattle.revwalk.proofs.QueueMoves.{set_at, set_off}
use Rattle.revwalk.proofs.QueueShares.{mix_all, heap_as, up_as, goes_as}

module _ (newest : Bool) (times : List ℤ) (cap : ℕ) (line : List ℕ) where
  pub unrooted-one : (m : ℕ) → m ≡ 0 → Unrooted newest times cap m line line
  unfolding queued sort_at insert_by
  unrooted-one m e =
      record {
        kept = λ k h. refl;
        heap = λ next q.
            record {
              room = q.room;
              size = omega arith;
              low = λ k h. absurd (omega arith);
              apart = λ i j h. absurd (omega arith);
              early = λ k h. absurd (omega arith);
              heap = record { edges = λ k k0 kn. absurd (omega arith) };
            };
        list = λ next q. rw e;
      }

  module _ (m hole : ℕ) (line₁ out : List ℕ) (hm : 0 < m) (hl : m < length line) (long : length out ≡ length line) (sank : Sank (goes newest times cap) cap m line line₁ hole) (rose : Rose (goes newest times cap) cap hole (at line m) line₁ out) where
    module _ (next : ℕ) (q : Heap newest times line cap (m + 1) next) where
      -- the last at the root, and the root at the end
      f' : ℕ → ℕ
      f' = at (set (set line 0 (at line m)) m (at line 0))

      v : ℕ → ℕ
      v = at (set line 0 (at line m))

      lt : ℕ → ℕ → Bool
      lt = goes newest times cap line

      seq : ℕ → ℕ
      seq = seq_of line cap

      v-old : (k : ℕ) → 0 < k → v k ≡ at line k
      unfolding v
      v-old k h = let d : k ≡ 0 → ⊥ = λ e. omega arith in set_off line 0 k (at line m) d

      v-root : v 0 ≡ at line m
      unfolding v
      v-root = set_at line 0 (at line m) (omega arith)

      f'-v : (k : ℕ) → k < m → f' k ≡ v k
      unfolding f' v
      f'-v k h = let d : k ≡ m → ⊥ = λ e. omega arith in set_off (set line 0 (at line m)) m k (at line 0) d

      f'-last : f' m ≡ at line 0
      unfolding f'
      f'-last = set_at (set line 0 (at line m)) m (at line 0) (rw length-set (omega arith))

      swapped : Swapped (at line) f' 0 m
      unfolding f'
      swapped =
          record {
            first = f'-v 0 hm ∙ v-root;
            second = f'-last;
            others = λ k a b. others k a b;
          }
        where
          others : (k : ℕ) → (k ≡ 0 → ⊥) → (k ≡ m → ⊥) → f' k ≡ at line k
          others k a b = set_off (set line 0 (at line m)) m k (at line 0) b ∙ set_off line 0 k (at line m) a

      mixed : Shuffled (at line) f' (m + 1)
      mixed = mix_swap (m + 1) 0 m (omega arith) (omega arith) swapped

      v-apart : (i j : ℕ) → i < m → j < m → seq (v i) ≡ seq (v j) → i ≡ j
      unfolding seq
      v-apart i j hi hj e = mix_apart seq mixed q.apart i j (omega arith) (omega arith) (ap seq (f'-v i hi) ∙ e ∙ sym (ap seq (f'-v j hj)))

      -- what holds of all of the line holds of all of v
      v-all : (P : ℕ → Type 0) → ((k : ℕ) → k < m + 1 → P (at line k)) → (k : ℕ) → k < m → P (v k)
      v-all P h k l = subst P (f'-v k l) (mix_all P mixed h k (omega arith))

      v-total : Total lt v m
      unfolding lt seq
      v-total = total newest times line cap v m v-apart

      v-down : Down lt v m 0
      unfolding lt
      v-down = down-begin lt (goes-trans newest times line cap) (at line) v (m + 1) m (omega arith) (λ k k0 km. v-old k k0) q.heap

      low : m ≤ cap
      low = omega (arith, q.size)

      v₁ : ℕ → ℕ
      v₁ = at (set line₁ hole (at line m))

      sunk : Shuffled v v₁ m × Up lt v₁ m hole
      unfolding v v₁ lt
      sunk = sank.right (at line m) low v-total v-down

      goes_one : (a b : ℕ) → lt a b ≡ goes newest times cap line₁ a b
      unfolding lt
      goes_one = goes_as newest times line line₁ cap (λ s. sym (sank.kept (cap + s) (omega (arith, low))))

      seq-out : (s : ℕ) → at line (cap + s) ≡ at out (cap + s)
      seq-out s = sym (rose.kept (cap + s) (omega (arith, low, sank.low)) ∙ sank.kept (cap + s) (omega (arith, low)))

      goes-out : (a b : ℕ) → lt a b ≡ goes newest times cap out a b
      unfolding lt
      goes-out = goes_as newest times line out cap seq-out

      v₁-apart : (i j : ℕ) → i < m → j < m → seq (v₁ i) ≡ seq (v₁ j) → i ≡ j
      v₁-apart = mix_apart seq sunk.0 v-apart

      v₁-total : Total (goes newest times cap line₁) v₁ m
      unfolding seq
      v₁-total =
          total newest times line₁ cap v₁ m
          (λ i j hi hj e. v₁-apart i j hi hj (sym (sank.kept (cap + v₁ i) (omega (arith, low))) ∙ e ∙ sank.kept (cap + v₁ j) (omega (arith, low))))

      settled : Settled (goes newest times cap line₁) v₁ (at out) m
      unfolding v₁
      settled = rose.right m low sank.low v₁-total (up_as lt (goes newest times cap line₁) v₁ m hole goes_one sunk.1)

      all-mixed : Shuffled v (at out) m
      all-mixed = mix_trans sunk.0 settled.mixed

      pop-heap : Heap newest times out cap m next
      unfolding seq
      pop-heap =
          record {
            room = omega (arith, q.room, long);
            size = low;
            low = mix_all (λ x. x < cap) all-mixed (v-all (λ x. x < cap) q.low);
            apart = λ i j hi hj e. mix_apart seq all-mixed v-apart i j hi hj (seq-out (at out i) ∙ e ∙ sym (seq-out (at out j)));
            early = λ k h. subst (λ (x : ℕ). x < next) (seq-out (at out k)) (mix_all (λ x. seq x < next) all-mixed (v-all (λ x. seq x < next) q.early) k h);
            heap = heap_as (goes newest times cap line₁) (goes newest times cap out) (at out) m (λ i j hi hj. sym (goes_one (at out i) (at out j)) ∙ goes-out (at out i) (at out j)) settled.heap;
          }

      root : (k : ℕ) → k < m → lt (at line 0) (v k) ≡ true
      unfolding lt
      root k h =
          ⊎_elim
          (λ e. subst (λ (x : ℕ). lt (at line 0) x ≡ true) (sym (ap v e ∙ v-root)) (first m hm (omega arith)))
          (λ d. subst (λ (x : ℕ). lt (at line 0) x ≡ true) (sym (v-old k (omega arith))) (first k (omega arith) (omega arith)))
          (same? k 0)
        where
          first : (k : ℕ) → 0 < k → k < m + 1 → lt (at line 0) (at line k) ≡ true
          first = root-first lt (goes-trans newest times line cap) (at line) (m + 1) q.heap

      -- the list is the root and then the list of what is left
      pub pop-list : queued newest times line cap (m + 1) ≡ at line 0 ∷ queued newest times out cap m
      unfolding queued sort_at lt
      pop-list =
          sort_mixed lt (at line) f' (m + 1) (goes-asym newest times line cap) (goes-trans newest times line cap) (total newest times line cap (at line) (m + 1) q.apart) mixed
          ∙ ap (sort_at lt f') one_more
          ∙ ap (λ (x : ℕ). insert_by lt x (sort_at lt f' m)) f'-last
          ∙ ap (insert_by lt (at line 0)) (sort_agree lt lt f' v m f'-v (λ i j hi hj. refl))
          ∙ insert_first lt (at line 0) (sort_at lt v m) (λ z i. let p = in_sort lt v m z i in subst (λ (x : ℕ). lt (at line 0) x ≡ true) p.is (root p.k p.low))
          ∙ ap (λ (l : List ℕ). at line 0 ∷ l)
          (sort_mixed lt v (at out) m (goes-asym newest times line cap) (goes-trans newest times line cap) v-total all-mixed
          ∙ sort_agree lt (goes newest times cap out) (at out) (at out) m (λ k h. refl) (λ i j hi hj. goes-out (at out i) (at out j)))
        where
          one_more : m + 1 ≡ suc m
          one_more = omega arith

    pub unrooted : Unrooted newest times cap m line out
    unrooted =
        record {
          kept = λ k h. rose.kept k (omega (arith, sank.low)) ∙ sank.kept k h;
          heap = pop-heap;
          list = pop-list;
        }
