-- The waiting slots by rising id: slot by slot, in the order of the queue's places, each goes into the part of the line that has those
-- before it. The part lies past the queue's memory, so the places stay as they were. Assumes nothing.
use mathlib.Core.Path.{◌≡◌, refl, sym, ◌∙◌, ap, subst}
use mathlib.Core.Logic.{⊎_elim}
use Prim.Native.Nat.{ℕ, ◌+◌, ◌≤◌, ◌<◌}
use mathlib.Core.Bool.{Bool}
use mathlib.Core.List.{List, [], map}
use native.Mathlib.Omega.{arith}
use native.Mathlib.Numerals.{add-one}
use lib.IntN.{ℤ}
use lib.ListN.{length, take}
use lib.Seq.{slice}
use Rattle.hash.specs.Bytes.{Id}
use Rattle.hashtable.specs.Table.{id_of, wrap}
use Rattle.revwalk.specs.Order.{at, insert_by, In}
use Rattle.pending.specs.Pending.{not_above, Sorts}
use Rattle.revwalk.specs.Queue.{GoodQueue, place_of, turn_of, slots_of, ReadsSlot}
use Rattle.revwalk.specs.declared.queue.Queue.{Queue}
use Rattle.pending.proofs.Inserts.{slice_none}
use Rattle.pending.proofs.Laws.{insert_ids}
use Rattle.revwalk.proofs.QueueSorts.{Place, in_insert}
use Rattle.revwalk.proofs.QueueGood.{either, place-timed, place-ring, slots-in, good-size, good-room}
use Rattle.revwalk.proofs.QueueRing.{wrap-in}
use Rattle.revwalk.proofs.QueueSlots.{line-good, same-front}
use Rattle.walk.specs.Painting.{insert_id}
use Rattle.frontier.specs.Prepare.{Collects}
use Rattle.frontier.proofs.SortedIds.{insert_nil, insert_cons, ranked, sorted_ranked}

-- the queue's places are as they were where its memory is
place_kept : {q : Queue} {times : List ℤ} {line : List ℕ} (line' : List ℕ) → GoodQueue q times line → ((k : ℕ) → k < q.cap + q.cap → at line k ≡ at line' k) → (i : ℕ) → i < q.count
    → place_of q line' i ≡ place_of q line i
place_kept {q} {times} {line} line' g same i h =
    let s = good-size g in
    ⊎_elim
    (λ e.
    ap (λ (f : ℕ → ℕ). f i) (place-timed q line' e) ∙ sym (same i (omega arith)) ∙ sym (ap (λ (f : ℕ → ℕ). f i) (place-timed q line e)))
    (λ e.
    ap (λ (f : ℕ → ℕ). f i) (place-ring q line' e)
    ∙ sym (same (wrap q.cap (q.head + i)) (omega (arith, wrap-in q.cap q.head i ((g.ring e).start (omega arith)) (omega arith))))
    ∙ sym (ap (λ (f : ℕ → ℕ). f i) (place-ring q line e)))
    (either q.timed)

-- after i slots
pub record Rank (width : ℕ) (names line : List ℕ) (q : Queue) (from : ℕ) (line' : List ℕ) (i : ℕ) : Type 0 where
  pub ids : map (id_of width names) (slice from (from + i) line') ≡ ranked (λ k. id_of width names (place_of q line k)) i
  pub slots : (s : ℕ) → In s (slice from (from + i) line') → Place (place_of q line) i s

pub record Collecting (width : ℕ) (names line : List ℕ) (q : Queue) (from n : ℕ) (line' : List ℕ) (i : ℕ) : Type 0 where
  pub upto : i ≤ n
  pub long : length line' ≡ length line
  pub below : take from line' ≡ take from line
  pub right : (times : List ℤ) → GoodQueue q times line → q.cap + q.cap ≤ from → from + q.count ≤ length line → Rank width names line q from line' i

none_yet : (line : List ℕ) (from : ℕ) → slice from (from + 0) line ≡ []
none_yet line from = slice_none from (from + 0) line (omega arith)

pub collect_first : (width : ℕ) (names line : List ℕ) (q : Queue) (from n : ℕ) → Collecting width names line q from n line 0
unfolding ranked In
collect_first width names line q from n = record {
  upto = omega arith;
  long = refl;
  below = refl;
  right = λ times g a b. record { ids = ap (map (id_of width names)) (none_yet line from); slots = λ s h. absurd (subst (In s) (none_yet line from) h) };
}

pub collect_next : {width : ℕ} {names line : List ℕ} {q : Queue} {from n : ℕ} {line₁ line₂ : List ℕ} {i slot : ℕ} {b : Bool} → Collecting width names line q from n line₁ i → i < n → n ≡ q.count
    → ReadsSlot q line₁ i slot → Sorts width names slot from i line₁ b line₂ → Collecting width names line q from n line₂ (i + 1)
unfolding ranked
collect_next {width} {names} {line} {q} {from} {n} {line₁} {line₂} {i} {slot} v l z r o = record {
  upto = omega arith;
  long = o.long ∙ v.long;
  below = o.below ∙ v.below;
  right = λ times g a b.
      let k = v.right times g a b in
      let same : (j : ℕ) → j < q.cap + q.cap → at line j ≡ at line₁ j = λ j h. same-front line line₁ from (sym v.below) j (omega arith) in
      let good : GoodQueue q times line₁ = line-good g line₁ same (omega (arith, good-room g, v.long)) in
      let e : slot ≡ place_of q line i = r.is times good (omega arith) ∙ place_kept line₁ g same i (omega arith) in
      let w : from + (i + 1) ≡ from + i + 1 = omega arith in
      let part : slice from (from + (i + 1)) line₂ ≡ insert_by (not_above width names) slot (slice from (from + i) line₁) =
      ap (λ (j : ℕ). slice from j line₂) w ∙ (o.entered (omega (arith, v.long))).1 in
      record {
        ids = ap (map (id_of width names)) part
            ∙ insert_ids width names insert_id insert_nil insert_cons slot (slice from (from + i) line₁)
            ∙ ap (λ (x : Id). insert_id x (map (id_of width names) (slice from (from + i) line₁))) (ap (id_of width names) e)
            ∙ ap (insert_id (id_of width names (place_of q line i))) k.ids
            ∙ sym (ap (ranked (λ j. id_of width names (place_of q line j))) (add-one i));
        slots = λ s h.
            ⊎_elim (λ p. record { k = i; low = omega arith; is = sym (p ∙ e) }) (λ p. let y = k.slots s p in record { k = y.k; low = omega (arith, y.low); is = y.is })
            (in_insert (not_above width names) slot s (slice from (from + i) line₁) (subst (In s) part h));
      };
}

pub collect_last : {width : ℕ} {names line : List ℕ} {q : Queue} {from n : ℕ} {line' : List ℕ} {i : ℕ} → Collecting width names line q from n line' i → n ≤ i → n ≡ q.count → Collects width names line q from line'
unfolding slots_of
collect_last {width} {names} {line} {q} {from} {n} {line'} {i} v l z = record {
  long = v.long;
  below = v.below;
  right = λ times g a b.
      let e : i ≡ q.count = omega (arith, v.upto) in
      let k = subst (λ (j : ℕ). Rank width names line q from line' j) e (v.right times g a b) in
      record {
        ids = k.ids ∙ sym (sorted_ranked (id_of width names) (turn_of q times line) (place_of q line) q.count);
        slots = λ s h. let y = k.slots s h in slots-in q times line s y.k y.low y.is;
      };
}
