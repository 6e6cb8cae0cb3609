-- How a slot enters painting's queue. While the slots in front of its place move down, the memory is the old one with the moved part
-- one place lower and a gap behind it; the new slot fills the gap. Then, and where the runs have been merged, one part of the memory is
-- another of its length, and all else is as it was. Assumes nothing.
use mathlib.Core.Path.{◌≡◌, refl, sym, ap, ◌∙◌, subst}
use mathlib.Core.List.{List, ◌∷◌, ◌++◌, append_assoc, append-nil}
use mathlib.Core.Bool.{Bool, true, false}
use Prim.Native.Nat.{ℕ, suc, ◌+◌, ◌-◌, ◌≤◌, ◌<◌}
use native.Mathlib.Omega.{arith}
use native.Mathlib.Nat.{add-zero}
use lib.IntN.{ℤ}
use lib.ListN.{length, take, drop, get_or, set, length-append, length-drop}
use lib.Seq.{slice, slice_empty, length-slice, length-take-le, drop-cons, set_at, split_at, get_or-append-add, get_or-drop, take_at, drop_at, take-append-le, take-take}
use Rattle.pending.specs.declared.Pending.{Pending}
use Rattle.std.specs.Prelude.{Option, Some, None}
use Rattle.revwalk.specs.Order.{insert_by}
use Rattle.pending.specs.Pending.{ahead, merge_by, older_in, younger_in, shifted_in, merged_in, Placed, Right, Room, Widens, OlderOnly, Settles, Enters, Pushes}
use Rattle.revwalk.proofs.QueueSorts.{length_insert}
use Rattle.pending.proofs.Ahead.{ahead-asym, ahead-level}
use Rattle.pending.proofs.Merges.{merge_none, merge-insert, length-merge}
use Rattle.pending.proofs.Inserts.{slice_snoc, slice_none, drop_split, Passed, passed_none, passed-more, placed-here, placed-last}
use Rattle.pending.proofs.Laws.{drop-above, slice-above}

-- the memory while slots move: those up to i have, and the place i - 1 holds some slot
pub record Moving (lt : ℕ → ℕ → Bool) (old line : List ℕ) (head tail x i : ℕ) : Type 0 where
  pub passed : Passed lt old head tail x i
  pub gap : ℕ
  pub is : line ≡ (take (head - 1) old ++ slice head i old) ++ (gap ∷ drop i old)

module _ (lt : ℕ → ℕ → Bool) (old : List ℕ) (head tail x : ℕ) (h0 : 0 < head) (ht : head ≤ tail) (hl : tail ≤ length old) where
  front_length : (i : ℕ) → head ≤ i → i ≤ tail → length (take (head - 1) old ++ slice head i old) ≡ i - 1
  front_length i a b =
      let k : head - 1 ≤ length old = omega arith in
      let m : i ≤ length old = omega arith in
      rw (length-append, length-take-le (head - 1) old k, length-slice head i old m) (omega arith)

  pub begin : Moving lt old old head tail x head
  begin =
      let inside : head - 1 < length old = omega arith in
      let next : suc (head - 1) ≡ head = omega arith in
      record {
        passed = passed_none lt old head tail x ht;
        gap = get_or old (head - 1) 0;
        is = simp (slice_empty, append-nil) (split_at old (head - 1) 0 inside ∙ ap (λ (n : ℕ). take (head - 1) old ++ (get_or old (head - 1) 0 ∷ drop n old)) next);
      }

  module _ (line : List ℕ) (i : ℕ) (m : Moving lt old line head tail x i) where
    front : List ℕ
    front = take (head - 1) old ++ slice head i old

    pub at_i : i < tail → get_or line i 0 ≡ get_or old i 0
    unfolding front
    at_i l =
        let q : i ≡ length front + 1 = omega (arith, front_length i m.passed.low m.passed.high, m.passed.low) in
        ap (λ (k : List ℕ). get_or k i 0) m.is
        ∙ ap (λ (n : ℕ). get_or (front ++ (m.gap ∷ drop i old)) n 0) q
        ∙ get_or-append-add front (m.gap ∷ drop i old) 1 0
        ∙ get_or-drop i old 0 0
        ∙ ap (λ (n : ℕ). get_or old n 0) (add-zero i)

    store : (v : ℕ) → set line (i - 1) v ≡ front ++ (v ∷ drop i old)
    unfolding front
    store v = ap (λ (k : List ℕ). set k (i - 1) v) m.is ∙ set_at front m.gap (drop i old) v (i - 1) (front_length i m.passed.low m.passed.high)

    pub move : i < tail → lt x (get_or old i 0) ≡ false → Moving lt old (set line (i - 1) (get_or old i 0)) head tail x (i + 1)
    unfolding front
    move l e =
        let inside : i < length old = omega arith in
        let next : i + 1 ≡ suc i = omega arith in
        record {
          passed = passed-more m.passed hl l e;
          gap = get_or old i 0;
          is = store (get_or old i 0) ∙ rw (slice_snoc head i old m.passed.low inside, next, drop-cons old i 0 inside) (simp append_assoc);
        }

    put : Placed lt old head tail x i → set line (i - 1) x ≡ shifted_in lt old head tail x
    unfolding front shifted_in
    put q = store x ∙ rw (q.goes, drop_split i tail old q.high hl) (simp append_assoc)

    pub put-here : i < tail → lt x (get_or old i 0) ≡ true → set line (i - 1) x ≡ shifted_in lt old head tail x
    put-here l e = put (placed-here m.passed hl l e)

    pub put_last : tail ≤ i → set line (tail - 1) x ≡ shifted_in lt old head tail x
    put_last l = let e : tail ≡ i = omega (arith, m.passed.high) in ap (λ (n : ℕ). set line (n - 1) x) e ∙ put (placed-last m.passed hl l)

-- ---- from the memory to the queue

-- a part of the memory is replaced by another of its length
module _ (line new : List ℕ) (s e : ℕ) (h : s ≤ e) (inside : e ≤ length line) (fits : length new ≡ e - s) (line' : List ℕ) (is : line' ≡ take s line ++ (new ++ drop e line)) where
  part_low : length (take s line) ≡ s
  part_low = length-take-le s line (omega arith)

  part_end : length (take s line ++ new) ≡ e
  part_end = rw (length-append, part_low) (omega arith)

  part-is : line' ≡ (take s line ++ new) ++ drop e line
  part-is = is ∙ sym (append_assoc (take s line) new (drop e line))

  pub part-long : length line' ≡ length line
  part-long = rw (part-is, length-append, part_end, length-drop) (omega arith)

  pub part-below : (b : ℕ) → b ≤ s → take b line' ≡ take b line
  part-below b l =
      let k : b ≤ length (take s line) = omega (arith, part_low) in
      rw (is, take-append-le b (take s line) (new ++ drop e line) k) (take-take b s line l)

  pub part-above : drop e line' ≡ drop e line
  part-above = rw part-is (drop_at (take s line ++ new) (drop e line) e part_end)

  pub part-new : slice s e line' ≡ new
  part-new = rw (part-is, take_at (take s line ++ new) (drop e line) e part_end) (drop_at (take s line) new s part_low)

module _ (levels : List ℕ) (times : List ℤ) (p : Pending) (line : List ℕ) (r : Right p line) where
  -- ---- into a run

  module _ (x : ℕ) (line' : List ℕ) where
    pub enters-younger : Widens p → line' ≡ shifted_in (ahead levels times) line p.low p.high x
        → Enters levels times x p line (record { base = p.base; low = p.low - 1; high = p.high; start = p.start; end = p.end }) line'
    unfolding shifted_in
    enters-younger w e =
        let new = insert_by (ahead levels times) x (younger_in p line) in
        let h : p.low - 1 ≤ p.high = omega (arith, r.low) in
        let k : p.high ≤ length line = omega (arith, r.apart, r.start, r.end) in
        let fits : length new ≡ p.high - (p.low - 1) = length_insert (ahead levels times) x (younger_in p line) ∙ rw (length-slice p.low p.high line k) (omega (arith, w.free, r.low)) in
        let long = part-long line new (p.low - 1) p.high h k fits line' e in
        let above = part-above line new (p.low - 1) p.high h k fits line' e in
        record {
          long = long;
          below = part-below line new (p.low - 1) p.high h k fits line' e p.base (omega (arith, w.free));
          above = drop-above line line' p.high above p.end (omega (arith, r.apart, r.start));
          entered = record {
            base = refl;
            end = refl;
            right = record { base = omega (arith, w.free); low = h; apart = omega (arith, w.apart); start = r.start; end = omega (arith, r.end) };
            slots =
                rw (slice-above line line' p.high above p.start p.end (omega (arith, r.apart)), part-new line new (p.low - 1) p.high h k fits line' e)
                (merge-insert (ahead levels times) (ahead-asym levels times) (ahead-level levels times) x (older_in p line) (younger_in p line));
          };
        }

    pub enters-older : OlderOnly p → line' ≡ shifted_in (ahead levels times) line p.start p.end x
        → Enters levels times x p line (record { base = p.base; low = p.base; high = p.base; start = p.start - 1; end = p.end }) line'
    unfolding shifted_in
    enters-older w e =
        let new = insert_by (ahead levels times) x (older_in p line) in
        let h : p.start - 1 ≤ p.end = omega (arith, r.start) in
        let fits : length new ≡ p.end - (p.start - 1) = length_insert (ahead levels times) x (older_in p line) ∙ rw (length-slice p.start p.end line r.end) (omega (arith, w.free, r.start)) in
        let long = part-long line new (p.start - 1) p.end h r.end fits line' e in
        record {
          long = long;
          below = part-below line new (p.start - 1) p.end h r.end fits line' e p.base (omega (arith, w.free));
          above = part-above line new (p.start - 1) p.end h r.end fits line' e;
          entered = record {
            base = refl;
            end = refl;
            right = record { base = omega arith; low = omega arith; apart = omega (arith, w.free); start = h; end = omega (arith, r.end) };
            slots =
                rw (slice_empty p.base line', slice_none p.low p.high line w.none)
                (simp (merge_none (ahead levels times)) (part-new line new (p.start - 1) p.end h r.end fits line' e));
          };
        }

  -- ---- one run into the other

  pub settles : Room p line → (line' : List ℕ) → line' ≡ merged_in (ahead levels times) line p.low p.high p.start p.end → (place : ℕ) → p.base ≤ place → place ≤ p.start - (p.high - p.low)
      → Settles levels times p line (record { base = p.base; low = place; high = place; start = p.start - (p.high - p.low); end = p.end }) line'
  unfolding merged_in
  settles w line' e place a b =
      let new = merge_by (ahead levels times) (older_in p line) (younger_in p line) in
      let s = p.start - (p.high - p.low) in
      let h : s ≤ p.end = omega (arith, r.start) in
      let k : p.high ≤ length line = omega (arith, r.apart, r.start, r.end) in
      let fits : length new ≡ p.end - s =
      length-merge (ahead levels times) (older_in p line) (younger_in p line)
      ∙ rw (length-slice p.low p.high line k, length-slice p.start p.end line r.end) (omega (arith, r.start, r.apart)) in
      let long = part-long line new s p.end h r.end fits line' e in
      record {
        long = long;
        below = part-below line new s p.end h r.end fits line' e p.base (omega arith);
        above = part-above line new s p.end h r.end fits line' e;
        base = refl;
        end = refl;
        right = record { base = a; low = omega arith; apart = omega arith; start = h; end = omega (arith, r.end) };
        empty = record { none = omega arith; free = omega (arith, w.free, r.start, r.apart, r.base) };
        slots = rw (slice_empty place line') (merge_none (ahead levels times) (slice s p.end line') ∙ part-new line new s p.end h r.end fits line' e);
      }

-- a slot enters once the runs are merged
pub settled_enters : {levels : List ℕ} {times : List ℤ} {x : ℕ} {p q : Pending} {line line₁ line₂ : List ℕ} {r : Pending} → Settles levels times p line q line₁ → Enters levels times x q line₁ r line₂
    → Enters levels times x p line r line₂
settled_enters {levels} {times} {x} {p} {q} {line} {line₁} {line₂} {r} s e =
    record {
      long = e.long ∙ s.long;
      below = subst (λ (b : ℕ). take b line₂ ≡ take b line₁) s.base e.below ∙ s.below;
      above = subst (λ (b : ℕ). drop b line₂ ≡ drop b line₁) s.end e.above ∙ s.above;
      entered = record {
        base = e.entered.base ∙ s.base;
        end = e.entered.end ∙ s.end;
        right = e.entered.right;
        slots = e.entered.slots ∙ ap (insert_by (ahead levels times) x) s.slots;
      };
    }

-- ---- with room a slot has entered, without it nothing has changed

pub pushes_room : {levels : List ℕ} {times : List ℤ} {x : ℕ} {p : Pending} {line line' : List ℕ} {r : Pending} → Room p line → Enters levels times x p line r line' → Pushes levels times x p line (Some r) line'
pushes_room w e = record { long = e.long; below = e.below; above = e.above; entered = (w, e.entered) }

pub pushes_refused : (levels : List ℕ) (times : List ℤ) (x : ℕ) (p : Pending) (line : List ℕ) → (Room p line → ⊥) → Pushes levels times x p line None line
pushes_refused levels times x p line n = record { long = refl; below = refl; above = refl; entered = (n, refl) }
