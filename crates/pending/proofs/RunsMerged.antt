-- One run merged into another in place, from the front: what has been set down and what is still to be merged make the whole. The place
-- to be written stays below the older run's rest by as many places as the younger run has left, and above the younger run; so no
-- write touches what is still to be merged. Assumes nothing.
use mathlib.Core.Path.{◌≡◌, refl, sym, ap, ◌∙◌}
use mathlib.Core.List.{List, [], ◌∷◌, ◌++◌, append_assoc}
use mathlib.Core.Bool.{Bool}
use Prim.Native.Nat.{ℕ, suc, ◌+◌, ◌-◌, ◌≤◌, ◌<◌}
use native.Mathlib.Omega.{arith}
use lib.ListN.{length, take, drop, get_or, set, length-set, take-append-drop}
use lib.Seq.{slice, take-suc-set, take-set-le, drop-set-lt, take-take}
use Rattle.pending.specs.Pending.{merge_by, merged_in}
use Rattle.pending.proofs.Merges.{merge_none}
use Rattle.pending.proofs.Inserts.{slice_none}
use Rattle.pending.proofs.Laws.{slice-below, slice-above}

-- up to place o the merged list stands; line[a .. end) and line[b .. high) are still to be merged
pub record Merging (lt : ℕ → ℕ → Bool) (old line : List ℕ) (low high start end o a b : ℕ) : Type 0 where
  pub long : length line ≡ length old
  pub from_a : start ≤ a
  pub to_a : a ≤ end
  pub from_b : low ≤ b
  pub to_b : b ≤ high
  pub gap : o + (high - b) ≡ a
  pub front : take o line ++ merge_by lt (slice a end line) (slice b high line) ≡ take (start - (high - low)) old ++ merge_by lt (slice start end old) (slice low high old)
  pub rest : drop end line ≡ drop end old

module _ (lt : ℕ → ℕ → Bool) (old : List ℕ) (low high start end : ℕ) (hl : low ≤ high) (apart : high + (high - low) ≤ start) (hs : start ≤ end) (inside : end ≤ length old) where
  pub merging-none : Merging lt old old low high start end (start - (high - low)) start low
  merging-none =
      record {
        long = refl;
        from_a = omega arith;
        to_a = hs;
        from_b = omega arith;
        to_b = hl;
        gap = omega arith;
        front = refl;
        rest = refl;
      }

  module _ (line : List ℕ) (o a b : ℕ) (m : Merging lt old line low high start end o a b) where
    -- one slot is set down at o, and runs that stand above o or below it are as they were
    set_down : (v a' b' : ℕ) → b < high → a ≤ a' → merge_by lt (slice a end line) (slice b high line) ≡ v ∷ merge_by lt (slice a' end line) (slice b' high line)
        → take (o + 1) (set line o v) ++ merge_by lt (slice a' end (set line o v)) (slice b' high (set line o v)) ≡ take o line ++ merge_by lt (slice a end line) (slice b high line)
    set_down v a' b' h k g =
        let next : o + 1 ≡ suc o = omega arith in
        let above : o < a' = omega (arith, m.gap) in
        let below : high ≤ o = omega (arith, m.gap, m.from_a, m.from_b) in
        let here : o < length line = omega (arith, m.gap, m.to_a, m.long) in
        rw (slice-above line (set line o v) a' (drop-set-lt a' line o v above) a' end (omega arith), slice-below line (set line o v) o (take-set-le o line o v (omega arith)) b' high below, next, take-suc-set line o v here)
        (append_assoc (take o line) (v ∷ []) (merge_by lt (slice a' end line) (slice b' high line)) ∙ ap (λ (l : List ℕ). take o line ++ l) (sym g))

    pub merging-older : b < high → a < end → merge_by lt (slice a end line) (slice b high line) ≡ get_or line a 0 ∷ merge_by lt (slice (a + 1) end line) (slice b high line)
        → Merging lt old (set line o (get_or line a 0)) low high start end (o + 1) (a + 1) b
    merging-older h k g =
        record {
          long = length-set line o (get_or line a 0) ∙ m.long;
          from_a = omega (arith, m.from_a);
          to_a = omega arith;
          from_b = m.from_b;
          to_b = m.to_b;
          gap = omega (arith, m.gap);
          front = set_down (get_or line a 0) (a + 1) b h (omega arith) g ∙ m.front;
          rest = drop-set-lt end line o (get_or line a 0) (omega (arith, m.gap)) ∙ m.rest;
        }

    pub merging-younger : b < high → merge_by lt (slice a end line) (slice b high line) ≡ get_or line b 0 ∷ merge_by lt (slice a end line) (slice (b + 1) high line)
        → Merging lt old (set line o (get_or line b 0)) low high start end (o + 1) a (b + 1)
    merging-younger h g =
        record {
          long = length-set line o (get_or line b 0) ∙ m.long;
          from_a = m.from_a;
          to_a = m.to_a;
          from_b = omega (arith, m.from_b);
          to_b = omega arith;
          gap = omega (arith, m.gap);
          front = set_down (get_or line b 0) a (b + 1) h (omega arith) g ∙ m.front;
          rest = drop-set-lt end line o (get_or line b 0) (omega (arith, m.gap, m.to_a)) ∙ m.rest;
        }

    -- the younger run is used up: what is left of the older one stands where it should
    pub merging-all : high ≤ b → line ≡ merged_in lt old low high start end
    unfolding merged_in
    merging-all h =
        let e : o ≡ a = omega (arith, m.gap) in
        let f : take end line ≡ take o line ++ merge_by lt (slice a end line) (slice b high line) =
        sym (take-append-drop o (take end line))
        ∙ ap (λ (t : List ℕ). t ++ slice o end line) (take-take o end line (omega (arith, m.to_a)))
        ∙ ap (λ (n : ℕ). take o line ++ slice n end line) e
        ∙ ap (λ (t : List ℕ). take o line ++ t) (sym (ap (merge_by lt (slice a end line)) (slice_none b high line h) ∙ merge_none lt (slice a end line))) in
        sym (take-append-drop end line)
        ∙ ap (λ (t : List ℕ). t ++ drop end line) (f ∙ m.front)
        ∙ ap (λ (t : List ℕ). (take (start - (high - low)) old ++ merge_by lt (slice start end old) (slice low high old)) ++ t) m.rest
        ∙ append_assoc (take (start - (high - low)) old) (merge_by lt (slice start end old) (slice low high old)) (drop end old)
