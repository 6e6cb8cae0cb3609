-- How a slot is put into a run that rises by ids. While the slots behind its place move up one by one, the memory is the new one up
-- to the place reached and the old one from there on, and the slot in hand is the one that comes next. Assumes nothing.
use mathlib.Core.Path.{◌≡◌, refl, sym, ap, ◌∙◌}
use mathlib.Core.List.{List, ◌∷◌, ◌++◌, append_assoc}
use mathlib.Core.Bool.{true, false}
use Prim.Native.Nat.{ℕ, suc, ◌+◌, ◌-◌, ◌≤◌, ◌<◌}
use native.Mathlib.Omega.{arith}
use lib.ListN.{length, take, drop, get_or, set, length-append, length-drop, take-append-drop}
use lib.Seq.{slice, length-slice, length-take-le, take-suc, take-append-add, drop-cons, set_at, get_or_at, get_or-append-add, get_or-drop, take_at, drop_at, take-take}
use Rattle.pending.specs.Pending.{not_above, Placed, put_in, Sorts}
use Rattle.pending.proofs.Inserts.{slice_first}

-- ---- moving up

-- the memory with x at place k and all behind it one place on
abbrev pub grown : List ℕ → ℕ → ℕ → List ℕ
grown old k x = take k old ++ (x ∷ drop k old)

pub record Carried (old line : List ℕ) (k to x i held : ℕ) : Type 0 where
  pub low : k ≤ i
  pub high : i ≤ to
  pub is : line ≡ take i (grown old k x) ++ drop i old
  pub next : held ≡ get_or (grown old k x) i 0

module _ (old : List ℕ) (k to x : ℕ) (hk : k ≤ to) (inside : to < length old) where
  k-length : length (take k old) ≡ k
  k-length = length-take-le k old (omega arith)

  pub carried_none : Carried old old k to x k x
  carried_none =
      record {
        low = omega arith;
        high = hk;
        is = sym (take-append-drop k old) ∙ ap (λ (t : List ℕ). t ++ drop k old) (sym (take_at (take k old) (x ∷ drop k old) k k-length));
        next = sym (get_or_at (take k old) x (drop k old) 0 k k-length);
      }

  module _ (line : List ℕ) (i held : ℕ) (m : Carried old line k to x i held) where
    i-length : length (take i (grown old k x)) ≡ i
    i-length = length-take-le i (grown old k x) (rw (length-append, k-length, length-drop) (omega (arith, m.low, m.high)))

    opened : line ≡ take i (grown old k x) ++ (get_or old i 0 ∷ drop (suc i) old)
    opened = m.is ∙ ap (λ (t : List ℕ). take i (grown old k x) ++ t) (drop-cons old i 0 (omega (arith, m.high)))

    pub at_i : get_or line i 0 ≡ get_or old i 0
    at_i = ap (λ (l : List ℕ). get_or l i 0) opened ∙ get_or_at (take i (grown old k x)) (get_or old i 0) (drop (suc i) old) 0 i i-length

    store : set line i held ≡ take (suc i) (grown old k x) ++ drop (suc i) old
    store =
        ap (λ (l : List ℕ). set l i held) opened
        ∙ set_at (take i (grown old k x)) (get_or old i 0) (drop (suc i) old) held i i-length
        ∙ rw (m.next, take-suc (grown old k x) i 0 (rw (length-append, k-length) (omega (arith, length-drop k old, m.low, m.high)))) (simp append_assoc)

    pub carried-more : i < to → Carried old (set line i held) k to x (i + 1) (get_or old i 0)
    carried-more h =
        let n : i + 1 ≡ suc i = omega arith in
        let q : i + 1 ≡ length (take k old) + suc (i - k) = omega (arith, k-length, m.low) in
        let b : k + (i - k) ≡ i = omega (arith, m.low) in
        record {
          low = omega (arith, m.low);
          high = omega arith;
          is = rw n store;
          next = sym (
              ap (λ (j : ℕ). get_or (grown old k x) j 0) q
              ∙ get_or-append-add (take k old) (x ∷ drop k old) (suc (i - k)) 0
              ∙ get_or-drop k old (i - k) 0
              ∙ ap (λ (j : ℕ). get_or old j 0) b
              );
        }

    pub carried-all : to ≤ i → set line to held ≡ put_in old k to x
    unfolding put_in
    carried-all h =
        let j : i ≡ to = omega (arith, m.high) in
        let n : to + 1 ≡ suc to = omega arith in
        let q : suc to ≡ length (take k old) + suc (to - k) = omega (arith, k-length) in
        let t : take (suc to) (grown old k x) ≡ take k old ++ (x ∷ slice k to old) =
        ap (λ (s : ℕ). take s (grown old k x)) q
        ∙ take-append-add (take k old) (x ∷ drop k old) (suc (to - k))
        ∙ ap (λ (s : List ℕ). take k old ++ (x ∷ s)) (sym (slice_first k to old)) in
        ap (λ (n : ℕ). set line n held) (sym j) ∙ store ∙ ap (λ (s : ℕ). take (suc s) (grown old k x) ++ drop (suc s) old) j ∙ rw (n, t) (simp append_assoc)

-- ---- from the memory to the run

module _ (w : ℕ) (names : List ℕ) (x from n : ℕ) (line : List ℕ) (room : from + n < length line) (k : ℕ) (q : Placed (not_above w names) line from (from + n) x k) where
  run : List ℕ
  run = slice from k line ++ (x ∷ slice k (from + n) line)

  from-length : length (take from line) ≡ from
  from-length = length-take-le from line (omega arith)

  run_length : length (take from line ++ run) ≡ from + n + 1
  unfolding run
  run_length =
      rw (length-append, from-length, length-append, length-slice from k line (omega (arith, q.high)), length-slice k (from + n) line (omega arith))
      (omega (arith, q.low, q.high))

  is-run : put_in line k (from + n) x ≡ (take from line ++ run) ++ drop (from + n + 1) line
  unfolding put_in run
  is-run =
      let a : take k line ≡ take from line ++ slice from k line = sym (take-append-drop from (take k line)) ∙ ap (λ (t : List ℕ). t ++ slice from k line) (take-take from k line q.low) in
      ap (λ (t : List ℕ). t ++ (x ∷ (slice k (from + n) line ++ drop (from + n + 1) line))) a ∙ simp append_assoc

  pub sorts-room : (line' : List ℕ) → line' ≡ put_in line k (from + n) x → Sorts w names x from n line true line'
  unfolding run
  sorts-room line' e =
      let f : line' ≡ (take from line ++ run) ++ drop (from + n + 1) line = e ∙ is-run in
      let g : line' ≡ take from line ++ (run ++ drop (from + n + 1) line) = f ∙ append_assoc (take from line) run (drop (from + n + 1) line) in
      record {
        long = rw (f, length-append, run_length, length-drop) (omega arith);
        below = rw g (take_at (take from line) (run ++ drop (from + n + 1) line) from from-length);
        above = rw f (drop_at (take from line ++ run) (drop (from + n + 1) line) (from + n + 1) run_length);
        entered = λ h. (refl, rw (f, take_at (take from line ++ run) (drop (from + n + 1) line) (from + n + 1) run_length) (drop_at (take from line) run from from-length ∙ sym q.goes));
        refused = λ h. absurd (omega arith);
      }

pub sorts_refused : (w : ℕ) (names : List ℕ) (x from n : ℕ) (line : List ℕ) → length line ≤ from + n → Sorts w names x from n line false line
sorts_refused w names x from n line h =
    record {
      long = refl;
      below = refl;
      above = refl;
      entered = λ r. absurd (omega arith);
      refused = λ r. (refl, refl);
    }
