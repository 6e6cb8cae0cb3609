-- Seconds read again: what is set down for a slot is told by its id alone, so a slot that was set down keeps its seconds when it, or another
-- one, is set down later. Assumes nothing.
use mathlib.Core.Path.{◌≡◌, refl, sym, ap, ◌∙◌, subst}
use mathlib.Core.Logic.{⊎_elim}
use mathlib.Core.List.{List}
use mathlib.Core.Bool.{Bool, true, false, cond}
use Prim.Native.Nat.{ℕ, ◌+◌, ◌<◌, ◌≤◌}
use native.Mathlib.Omega.{arith}
use lib.ListN.{length, get_or, set, length-set}
use lib.Seq.{get_or-set_same, get_or-set_other}
use lib.IntN.{ℤ, pos}
use Rattle.hashtable.specs.Table.{id_of}
use Rattle.odb.specs.Store.{store_is_ok}
use Rattle.walk.specs.Lookup.{world_of, seconds_for}
use Rattle.revwalk.specs.declared.queue.Queue.{Queue}
use Rattle.revwalk.specs.Queue.{place_of, GoodQueue, ReadsSlot}
use Rattle.revwalk.proofs.QueueSorts.{same?}
use Rattle.revwalk.proofs.QueueGood.{in-slots}
use Rattle.refill.specs.Inner.{RereadsSlot, Rereads}

-- slot z has its seconds
abbrev Right : ℕ → List ℕ → List ℕ → List ℕ → List ℤ → ℕ → Type 0
Right width store names g times z = get_or times z (pos 0) ≡ seconds_for (world_of width store g) (id_of width names z)

pub rereads_slot : {width : ℕ} {store names : List ℕ} {slot : ℕ} {times times' : List ℤ} {v : ℤ} → times' ≡ set times slot v
    → (store_is_ok width store ≡ true → (g : List ℕ) → v ≡ seconds_for (world_of width store g) (id_of width names slot)) → RereadsSlot width store names slot times times'
rereads_slot {width} {store} {names} {slot} {times} {times'} {v} e h = record {
  long = ap length e ∙ length-set times slot v;
  is = λ o g. e ∙ ap (set times slot) (h o g);
}

-- the first i places of the queue are read
pub record Rereading (width : ℕ) (q : Queue) (store names line : List ℕ) (n : ℕ) (times₀ times : List ℤ) (i : ℕ) : Type 0 where
  pub many : n ≡ cond q.timed q.count 0
  pub long : length times ≡ length times₀
  pub so_far : (t : List ℤ) → GoodQueue q t line → store_is_ok width store ≡ true → (g : List ℕ) (k : ℕ) → k < i → k < q.count → place_of q line k < length times₀ → Right width store names g times (place_of q line k)

pub reread_none : {width : ℕ} {q : Queue} {store names line : List ℕ} {n : ℕ} {times : List ℤ} → n ≡ cond q.timed q.count 0 → Rereading width q store names line n times times 0
reread_none e = record { many = e; long = refl; so_far = λ t w o g k h. absurd (omega arith) }

below-count : (b : Bool) {n c i : ℕ} → n ≡ cond b c 0 → i < n → i < c
below-count true e h = omega arith
below-count false e h = absurd (omega arith)

pub reread_more : {width : ℕ} {q : Queue} {store names line : List ℕ} {n : ℕ} {times₀ times times' : List ℤ} {i s slot : ℕ} → Rereading width q store names line n times₀ times i → i < n → ReadsSlot q line i s → slot ≡ s
    → RereadsSlot width store names slot times times' → Rereading width q store names line n times₀ times' (i + 1)
reread_more {width} {q} {store} {names} {line} {n} {times₀} {times} {times'} {i} {s} {slot} v h r e w = record {
  many = v.many;
  long = w.long ∙ v.long;
  so_far = λ t good o g k l c in-times. set_down t good o g k l c in-times;
}
  where
    set_down : (t : List ℤ) → GoodQueue q t line → store_is_ok width store ≡ true → (g : List ℕ) (k : ℕ) → k < i + 1 → k < q.count → place_of q line k < length times₀ → Right width store names g times' (place_of q line k)
    set_down t good o g k l c in-times =
        let is : slot ≡ place_of q line i = e ∙ r.is t good (below-count q.timed v.many h) in
        let x : ℤ = seconds_for (world_of width store g) (id_of width names slot) in
        let long = v.long in
        subst (λ (u : List ℤ). Right width store names g u (place_of q line k)) (sym (w.is o g))
        (⊎_elim
        (λ p. subst (λ (z : ℕ). Right width store names g (set times slot x) z) (sym p) (get_or-set_same times slot x (pos 0) (subst (λ (z : ℕ). z < length times) p (omega arith))))
        (λ d. get_or-set_other times slot (place_of q line k) x (pos 0) d ∙ v.so_far t good o g k (before k l (λ p. d (ap (place_of q line) p ∙ sym is))) c in-times)
        (same? (place_of q line k) slot))
      where
        before : (k : ℕ) → k < i + 1 → (k ≡ i → ⊥) → k < i
        before k l d = omega (arith, d)

pub reread_all : {width : ℕ} {q : Queue} {store names line : List ℕ} {n : ℕ} {times₀ times : List ℤ} {i : ℕ} → Rereading width q store names line n times₀ times i → n ≤ i → Rereads width q store names line times₀ times
reread_all {width} {q} {store} {names} {line} {n} {times₀} {times} {i} v h = record {
  long = v.long;
  again = λ t good timed o g z m in-times.
      let p = in-slots q t line z m in
      let many : n ≡ q.count = v.many ∙ ap (λ (b : Bool). cond b q.count 0) timed in
      subst (Right width store names g times) p.is
      (v.so_far t good o g p.k (omega (arith, p.low)) p.low (subst (λ (y : ℕ). y < length times₀) (sym p.is) in-times));
}
