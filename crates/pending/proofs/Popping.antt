-- How a slot leaves painting's queue: of the two runs' first slots one comes first in the merged list, and the rest is merged as before.
-- And how a run is gone through for a slot that lacks STALE: from the front, one by one. Assumes nothing.
use mathlib.Core.Path.{◌≡◌, refl, sym, ◌∙◌}
use mathlib.Core.Logic.{⊎_elim, inl, inr}
use mathlib.Core.List.{List}
use mathlib.Core.Bool.{Bool, true, false, not}
use Prim.Native.Nat.{ℕ, ◌+◌, ◌≤◌, ◌<◌}
use native.Mathlib.Omega.{arith}
use borrow.Author.Tests.{not-true, not-false, ltb-true, ltb-false}
use lib.Dec.{ltb}
use lib.IntN.{ℤ}
use lib.ListN.{length, get_or}
use lib.Seq.{slice}
use Rattle.std.specs.Prelude.{Some}
use Rattle.hash.proofs.Tests.{by_cases, clash}
use Rattle.pending.specs.declared.Pending.{Pending}
use Rattle.pending.specs.Pending.{ahead, Runs, Leaves, Waits, Pops, fresh}
use Rattle.pending.proofs.Inserts.{slice_next, slice_none, slice_past}
use Rattle.pending.proofs.Merges.{merge_none, merge-alone, merge-older, merge-younger}

-- ---- which of two runs' first slots leaves

module _ (lt : ℕ → ℕ → Bool) (line : List ℕ) (a end b high : ℕ) (runs : Runs line a end b high) where
  -- the younger run is empty
  pub leaves-older : high ≤ b → Leaves lt line a end b high true
  leaves-older h =
      let k : a < end = ⊎_elim (λ l. l) (λ l. absurd (omega arith)) runs.some in
      record {
        from-older = λ e. k;
        older = λ e. rw (slice_none b high line h) (simp (merge_none lt) (slice_next a end line k (omega (arith, runs.older))));
        from-younger = λ e. clash refl e;
        younger = λ e. clash refl e;
      }

  -- the older run is empty
  pub leaves-younger : b < high → end ≤ a → Leaves lt line a end b high false
  leaves-younger k h =
      record {
        from-older = λ e. clash e refl;
        older = λ e. clash e refl;
        from-younger = λ e. k;
        younger = λ e. rw (slice_none a end line h) (simp (merge-alone lt) (slice_next b high line k (omega (arith, runs.younger))));
      }

  -- both have a slot
  pub leaves-first : b < high → a < end → (t : Bool) → t ≡ lt (get_or line b 0) (get_or line a 0) → Leaves lt line a end b high (not t)
  leaves-first k h t q =
      let p = slice_next a end line h (omega (arith, runs.older)) in
      let s = slice_next b high line k (omega (arith, runs.younger)) in
      record {
        from-older = λ e. h;
        older = λ e. rw (p, s) (merge-older lt (get_or line a 0) (get_or line b 0) (slice (a + 1) end line) (slice (b + 1) high line) (sym q ∙ not-true t e));
        from-younger = λ e. k;
        younger = λ e. rw (p, s) (merge-younger lt (get_or line a 0) (get_or line b 0) (slice (a + 1) end line) (slice (b + 1) high line) (sym q ∙ not-false t e));
      }

-- ---- the queue without it

pub waits-runs : (p : Pending) (line : List ℕ) → Waits p line → Runs line p.start p.end p.low p.high
waits-runs p line w =
    record {
      older = w.right.end;
      younger = omega (arith, w.right.apart, w.right.start, w.right.end);
      some = by_cases (ltb p.start p.end) (λ t. inl (ltb-true _ _ t)) (λ t. let k = ltb-false p.start p.end t in inr (omega (arith, w.some)));
    }

module _ (levels : List ℕ) (times : List ℤ) (p : Pending) (line : List ℕ) where
  module _ (w : Waits p line) (r : Bool) (l : Leaves (ahead levels times) line p.start p.end p.low p.high r) where
    pub pops-older : r ≡ true
        → Pops levels times p line (Some (record { slot = get_or line p.start 0; pending = record { base = p.base; low = p.low; high = p.high; start = p.start + 1; end = p.end } }))
    pops-older e =
        let k = l.from-older e in
        let q = w.right in (
          w,
          record {
            base = refl;
            end = refl;
            right = record { base = q.base; low = q.low; apart = omega (arith, q.apart); start = omega arith; end = q.end };
            slots = l.older e;
          },
        )

    pub pops-younger : r ≡ false
        → Pops levels times p line (Some (record { slot = get_or line p.low 0; pending = record { base = p.base; low = p.low + 1; high = p.high; start = p.start; end = p.end } }))
    pops-younger e =
        let k = l.from-younger e in
        let q = w.right in (
          w,
          record {
            base = refl;
            end = refl;
            right = record { base = omega (arith, q.base); low = omega arith; apart = omega (arith, q.apart); start = q.start; end = q.end };
            slots = l.younger e;
          },
        )

-- ---- a slot that lacks STALE

module _ (done : ℕ → Bool) (line : List ℕ) (i t : ℕ) where
  pub fresh-next : i < t → i < length line → done (get_or line i 0) ≡ true → fresh done (slice i t line) ≡ fresh done (slice (i + 1) t line)
  unfolding fresh
  fresh-next h k e = rw (slice_next i t line h k, e)

  pub fresh-here : i < t → i < length line → done (get_or line i 0) ≡ false → fresh done (slice i t line) ≡ true
  unfolding fresh
  fresh-here h k e = rw (slice_next i t line h k, e)

  pub fresh-end : t ≤ i → fresh done (slice i t line) ≡ false
  unfolding fresh
  fresh-end h = rw (slice_none i t line h)

  pub fresh-past : length line ≤ i → fresh done (slice i t line) ≡ false
  unfolding fresh
  fresh-past h = rw (slice_past i t line h)
