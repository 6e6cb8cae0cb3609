-- push and pop of a queue that is a heap.
use Rattle.std.specs.Prelude.{Some}
use mathlib.Core.Path.{◌≡◌, refl, sym, ap, ◌∙◌, subst}
use mathlib.Core.List.{List, ◌∷◌}
use mathlib.Core.Bool.{true}
use Prim.Native.Nat.{ℕ, ◌+◌, ◌-◌, ◌/◌, ◌≤◌, ◌<◌}
use native.Mathlib.Omega.{arith}
use lib.ListN.{length, set}
use lib.IntN.{ℤ}
use Rattle.revwalk.specs.declared.queue.Queue.{Queue}
use Rattle.revwalk.specs.Order.{at, goes}
use Rattle.revwalk.specs.Sift.{Rose}
use Rattle.revwalk.specs.Queue.{Heap, Unrooted, Pushes, Pops, queued}
use Rattle.revwalk.proofs.QueueMoves.{set_off}
use Rattle.revwalk.proofs.QueueHeapPush.{push-heap, push-list}
use Rattle.revwalk.proofs.QueueGood.{before-timed, place-timed, slots-timed, of-heap, slots-in, pops-first}

module _ {q : Queue} {times : List ℤ} {line out : List ℕ} (e : q.timed ≡ true) where
  -- the queue with one slot more
  pub pushes : {slot : ℕ} → q.cap ≤ length line / 2 → q.count < q.cap → slot < q.cap → length out ≡ length line → Rose (goes q.newest times q.cap) q.cap q.count slot (set line (q.cap + slot) q.next) out → Pushes q times slot line out (record { timed = q.timed; newest = q.newest; cap = q.cap; head = q.head; count = q.count + 1; next = q.next + 1 })
  pushes {slot} hc hn hs long rose =
      record {
        long = long;
        kept = λ k h. rose.kept k (omega arith) ∙ set_off line (q.cap + slot) k q.next (λ d. omega arith);
        same = record { timed = refl; newest = refl; cap = refl };
        next = omega arith;
        still = λ d. absurd (omega arith);
        joined = λ g s f n.
            let fresh : (k : ℕ) → k < q.count → at line k ≡ slot → ⊥ = λ k h d. f (slots-in q times line slot k h (ap (λ (p : ℕ → ℕ). p k) (place-timed q line e) ∙ d)) in
            record {
              count = refl;
              good = of-heap r times out e (push-heap q.newest times q.cap q.count q.next slot line out hc hn hs long rose (g.heap e) fresh);
              list = slots-timed r times out e
                  ∙ push-list q.newest times q.cap q.count q.next slot line out hc hn hs long rose (g.heap e) fresh
                  ∙ rw (slots-timed q times line e, before-timed q times e);
            };
      }
    where
      r : Queue
      r = record { timed = q.timed; newest = q.newest; cap = q.cap; head = q.head; count = q.count + 1; next = q.next + 1 }

  -- the root handed out, and the queue with one slot less
  pub pops : q.count ≤ q.cap → (q.count ≡ 0 → ⊥) → length out ≡ length line → Unrooted q.newest times q.cap (q.count - 1) line out → Pops q times line out (Some (record { slot = at line 0; queue = record { timed = q.timed; newest = q.newest; cap = q.cap; head = q.head; count = q.count - 1; next = q.next } }))
  pops hn some long u =
      pops-first long (λ k h. u.kept k (omega arith)) (record { timed = refl; newest = refl; cap = refl }) refl (sym (ap (λ (p : ℕ → ℕ). p 0) (place-timed q line e)))
      (λ g.
      let h : Heap q.newest times line q.cap (q.count - 1 + 1) q.next = subst (λ (n : ℕ). Heap q.newest times line q.cap n q.next) (sym more) (g.heap e) in
      record {
        count = more;
        good = of-heap r times out e (u.heap q.next h);
        list = slots-timed q times line e
            ∙ ap (queued q.newest times line q.cap) (sym more)
            ∙ u.list q.next h
            ∙ ap (λ (l : List ℕ). at line 0 ∷ l) (sym (slots-timed r times out e));
      })
    where
      more : q.count - 1 + 1 ≡ q.count
      more = omega arith

      r : Queue
      r = record { timed = q.timed; newest = q.newest; cap = q.cap; head = q.head; count = q.count - 1; next = q.next }
