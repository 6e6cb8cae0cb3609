-- A record's words in place: words with every yes or no 0 or 1 and nothing beyond what counts are those of their record, and what waits, stored over its own
-- words, leaves the words of the same record with it, since no other word is read for it. Assumes nothing.
use mathlib.Core.Path.{◌≡◌, refl, sym, ◌∙◌, ap}
use Prim.Native.Nat.{ℕ, zero, suc, ◌+◌, ◌%◌, ◌≤◌, ◌<◌}
use mathlib.Core.List.{List, [], ◌∷◌, ◌++◌}
use native.Mathlib.Omega.{arith}
use lib.ListN.{length, get_or, set, drop}
use lib.Seq.{drop-cons}
use lib.Dec.{eqb}
use Rattle.hash.specs.Bytes.{set_down}
use Rattle.hash.proofs.Bytes.{set_down-fits, set_down-not}
use Rattle.revwalk.specs.declared.queue.Queue.{Queue}
use Rattle.state.specs.declared.Record.{Record}
use Rattle.state.specs.declared.Waiting.{Waiting}
use Rattle.state.specs.Shapes.{requeued, waiting_in}
use Rattle.wire.specs.Words.{kind_of, width_word, bit_of, record_words, words_of, queue_of, fixed_in, record_of, PutsWaiting}
use Rattle.wire.proofs.Back.{queue-back}

-- ---- words one by one

-- the n words from the place i on
unfoldable reads : ℕ → ℕ → List ℕ → List ℕ
reads zero i w = []
reads (suc n) i w = get_or w i 0 ∷ reads n (suc i) w

reads_drop : (n i : ℕ) (w : List ℕ) → i + n ≤ length w → reads n i w ++ drop (i + n) w ≡ drop i w
unfolding reads
reads_drop zero i w h = let e : i + 0 ≡ i = omega arith in ap (λ (j : ℕ). drop j w) e
reads_drop (suc n) i w h =
    let e : i + suc n ≡ suc i + n = omega arith in
    ap (λ (j : ℕ). get_or w i 0 ∷ (reads n (suc i) w ++ drop j w)) e
    ∙ ap (λ (l : List ℕ). get_or w i 0 ∷ l) (reads_drop n (suc i) w (omega arith))
    ∙ sym (drop-cons w i 0 (omega arith))

-- a record's words and what stands after them
by_word : (w : List ℕ) → record_words ≤ length w → reads record_words 0 w ++ drop record_words w ≡ w
by_word w h = reads_drop record_words 0 w h

-- ---- words that are those of their record

bit_word : (x : ℕ) → x ≤ 1 → bit_of (eqb x 1) ≡ x
bit_word zero h = refl
bit_word (suc zero) h = refl
bit_word (suc (suc x)) h = absurd (omega arith)

-- of what reads as SHA-1, 0 alone is its word
pub none_is_zero : (x : ℕ) → x ≤ 0 → width_word (kind_of (x % 4294967296)) ≡ x
unfolding kind_of
none_is_zero zero h = refl
none_is_zero (suc x) h = absurd (omega arith)

pub plain :
    (w : List ℕ)
    → record_words ≤ length w
    → get_or w 0 0 ≤ 1
    → get_or w 1 0 ≤ 1
    → get_or w 2 0 ≤ 1
    → get_or w 3 0 ≤ 1
    → get_or w 4 0 ≤ 1
    → get_or w 5 0 ≤ 1
    → get_or w 9 0 ≤ 4294967295
    → get_or w 18 0 ≤ 1
    → width_word (kind_of (get_or w 19 0 % 4294967296)) ≡ get_or w 19 0
    → set_down w 0 (words_of (record_of w)) ≡ w
unfolding words_of queue_of fixed_in record_of reads
plain w h b0 b1 b2 b3 b4 b5 n9 b18 k19 =
    let low : get_or w 9 0 % 4294967296 ≡ get_or w 9 0 = omega arith in
    set_down-fits w 0 (words_of (record_of w)) (omega arith)
    ∙ (λ k.
    bit_word (get_or w 0 0) b0 k ∷ bit_word (get_or w 1 0) b1 k ∷ bit_word (get_or w 2 0) b2 k ∷ bit_word (get_or w 3 0) b3 k
    ∷ bit_word (get_or w 4 0) b4 k ∷ bit_word (get_or w 5 0) b5 k ∷ get_or w 6 0 ∷ get_or w 7 0 ∷ get_or w 8 0 ∷ low k
    ∷ get_or w 10 0 ∷ get_or w 11 0
    ∷ get_or w 12 0 ∷ get_or w 13 0 ∷ get_or w 14 0 ∷ get_or w 15 0 ∷ get_or w 16 0 ∷ get_or w 17 0
    ∷ bit_word (get_or w 18 0) b18 k ∷ k19 k ∷ drop record_words w)
    ∙ by_word w h

-- ---- what waits, stored over its own words

abbrev pub waited : List ℕ → ℕ → ℕ → ℕ → ℕ → ℕ → ℕ → ℕ → List ℕ
waited w timed newest cap head count next admitted = set (set (set (set (set (set (set w 4 timed) 5 newest) 6 cap) 7 head) 8 count) 9 next) 10 admitted

abbrev pub with_waiting : Waiting → List ℕ → List ℕ
with_waiting a w = waited w (bit_of a.queue.timed) (bit_of a.queue.newest) a.queue.cap a.queue.head a.queue.count a.queue.next a.admitted

pub puts-waiting : (a : Waiting) (w : List ℕ) → a.queue.next < 4294967296 → record_words ≤ length w → PutsWaiting a w (with_waiting a w)
unfolding words_of queue_of fixed_in record_of reads
puts-waiting a w s h = record {
  is = λ p.
      ap (with_waiting a) (sym p ∙ set_down-fits w 0 (words_of (record_of w)) (omega arith))
      ∙ sym (set_down-fits w 0 (words_of (waiting_in (record_of w) a)) (omega arith));
  back = λ n.
      ap (λ (l : List ℕ). record_of (with_waiting a l)) (sym (by_word w h))
      ∙ ap (λ (q : Queue). requeued (record_of w) q (record_of w).kept a.admitted) (queue-back a.queue s);
}

-- where there is no room nothing is stored
pub puts-nothing : (a : Waiting) (w : List ℕ) → length w < record_words → PutsWaiting a w w
unfolding words_of
puts-nothing a w h = record { is = λ p. sym (set_down-not w 0 (words_of (waiting_in (record_of w) a)) (omega arith)); back = λ n. absurd (omega arith) }
