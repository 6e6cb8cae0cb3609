-- Laws of the padding: how many blocks a message has, and what each of them is. Assumes nothing.
use mathlib.Core.Path.{◌≡◌, refl, sym, ◌∙◌, ap}
use Prim.Native.Nat.{ℕ, zero, suc, ◌+◌, ◌-◌, ◌*◌, ◌/◌, ◌%◌, ◌^◌, ◌≤◌, ◌<◌}
use mathlib.Core.List.{List, [], ◌∷◌, ◌++◌, append_assoc, append-nil}
use native.Mathlib.Omega.{arith}
use lib.ListN.{length, take, drop, set, length-take, length-drop, length-append, length-replicate, replicate-append-replicate}
use lib.Seq.{take_all, take_at, drop_at, set_at, drop-append-le, take-append-add, drop-append-add}
use Rattle.hash.specs.Bytes.{at, u32_at, set_down}
use Rattle.hash.proofs.Bytes.{set_down-fits, length_at, length_at_le, at-past}
use Rattle.digest.specs.Words.{word_bytes}
use Rattle.digest.specs.Blocks.{made, bit_length, padding, zeros, padded, filled, words_of, block_count, block_words}
use Rattle.digest.proofs.Lists.{take_append, at_first, at_second, down_two, drop_zeros, take_zeros, filled-whole, length_filled}

-- ---- lengths

pub length_bits : (l : ℕ) → length (bit_length l) ≡ 8
unfolding bit_length
length_bits l = refl

pub length_padding : (l : ℕ) → length (padding l) ≡ 9 + (119 - l % 64) % 64
unfolding padding
length_padding l = ap suc (length-append (zeros ((119 - l % 64) % 64)) (bit_length l)) ∙ simp (length-replicate, length_bits) (omega arith)

pub length_padded : (m : List ℕ) → length (padded m) ≡ length m + (9 + (119 - length m % 64) % 64)
unfolding padded
length_padded m = length-append m (padding (length m)) ∙ ap (λ (k : ℕ). length m + k) (length_padding (length m))

pub block_count_lem : (l : ℕ) → l / 64 + (l % 64 + 72) / 64 ≡ (l + length (padding l)) / 64
block_count_lem l = rw (length_padding l) (omega arith)

pub padded-count : (m : List ℕ) → length (padded m) / 64 ≡ (length m + length (padding (length m))) / 64
unfolding padded
padded-count m = ap (λ (k : ℕ). k / 64) (length-append m (padding (length m)))

-- ---- the length in bits

high_word : (l : ℕ) → word_bytes (l / 536870912 % 4294967296) ≡ word_bytes (8 * l / 2 ^ 32)
high_word l =
    let a : l / 536870912 % 4294967296 / 16777216 % 256 ≡ 8 * l / 4294967296 / 16777216 % 256 = omega arith in
    let b : l / 536870912 % 4294967296 / 65536 % 256 ≡ 8 * l / 4294967296 / 65536 % 256 = omega arith in
    let c : l / 536870912 % 4294967296 / 256 % 256 ≡ 8 * l / 4294967296 / 256 % 256 = omega arith in
    let d : l / 536870912 % 4294967296 % 256 ≡ 8 * l / 4294967296 % 256 = omega arith in
    λ p. a p ∷ b p ∷ c p ∷ d p ∷ []

low_word : (l : ℕ) → word_bytes (l % 536870912 * 8) ≡ word_bytes (8 * l)
low_word l =
    let a : l % 536870912 * 8 / 16777216 % 256 ≡ 8 * l / 16777216 % 256 = omega arith in
    let b : l % 536870912 * 8 / 65536 % 256 ≡ 8 * l / 65536 % 256 = omega arith in
    let c : l % 536870912 * 8 / 256 % 256 ≡ 8 * l / 256 % 256 = omega arith in
    let d : l % 536870912 * 8 % 256 ≡ 8 * l % 256 = omega arith in
    λ p. a p ∷ b p ∷ c p ∷ d p ∷ []

-- the two words set down one after the other
pub length_down_two : (b x y : List ℕ) (l : ℕ) → length b ≡ 64 → x ≡ word_bytes (l / 536870912 % 4294967296) → y ≡ word_bytes (l % 536870912 * 8)
    → set_down (set_down b 56 x) 60 y ≡ set_down b 56 (bit_length l)
unfolding bit_length
length_down_two b x y l h e f =
    (λ p. set_down (set_down b 56 ((e ∙ high_word l) p)) 60 ((f ∙ low_word l) p))
    ∙ down_two b 56 (word_bytes (8 * l / 2 ^ 32)) (word_bytes (8 * l)) 60 refl (omega arith)

-- ---- the blocks of a padded message

-- a block of zeros and a length L, after q zeros of the block before it
length_after : (L : List ℕ) → length L ≡ 8 → (m : List ℕ) (q : ℕ) → set_down (zeros 64) 56 L ≡ at (m ++ (128 ∷ (zeros (q + 56) ++ L))) (length m + suc q) 64
unfolding at
length_after L e m q =
    let f : 56 + length L ≡ 64 = omega (arith, e) in
    let d : drop (suc q) (128 ∷ (zeros (q + 56) ++ L)) ≡ zeros 56 ++ L =
    ap (λ (s : List ℕ). drop q (s ++ L)) (sym (replicate-append-replicate {A = ℕ} q 56 0))
    ∙ ap (drop q) (append_assoc (zeros q) (zeros 56) L)
    ∙ drop_at (zeros q) (zeros 56 ++ L) q (length-replicate {A = ℕ} q 0) in
    set_down-fits (zeros 64) 56 L (omega (arith, f))
    ∙ ap (λ (k : ℕ). zeros 56 ++ (L ++ drop k (zeros 64))) f
    ∙ ap (λ (s : List ℕ). zeros 56 ++ s) (append-nil L)
    ∙ sym
    (ap (take 64) (drop-append-add m (128 ∷ (zeros (q + 56) ++ L)) (suc q) ∙ d)
    ∙ take_all 64 (zeros 56 ++ L) (omega (arith, length-append (zeros 56) L, e)))

-- a block of its last bytes d, the bit 1, zeros and a length L
length_in : (L : List ℕ) → length L ≡ 8 → (d : List ℕ) (q : ℕ) → length d + q ≡ 55 → set_down (d ++ (128 ∷ zeros (q + 8))) 56 L ≡ d ++ (128 ∷ (zeros q ++ L))
length_in L e d q h =
    let u : List ℕ = d ++ (128 ∷ zeros q) in
    let lu : length (d ++ (128 ∷ zeros q)) ≡ 56 = length-append d (128 ∷ zeros q) ∙ simp length-replicate (omega (arith, h)) in
    let parts : d ++ (128 ∷ zeros (q + 8)) ≡ (d ++ (128 ∷ zeros q)) ++ zeros 8 =
    ap (λ (s : List ℕ). d ++ (128 ∷ s)) (sym (replicate-append-replicate {A = ℕ} q 8 0)) ∙ sym (append_assoc d (128 ∷ zeros q) (zeros 8)) in
    let size : length ((d ++ (128 ∷ zeros q)) ++ zeros 8) ≡ 64 = length-append (d ++ (128 ∷ zeros q)) (zeros 8) ∙ omega (arith, lu) in
    let past : 56 + length L ≡ length (d ++ (128 ∷ zeros q)) + 8 = omega (arith, lu, e) in
    ap (λ (s : List ℕ). set_down s 56 L) parts
    ∙ set_down-fits (u ++ zeros 8) 56 L (omega (arith, size, e))
    ∙ (λ p. take_at u (zeros 8) 56 lu p ++ (L ++ (ap (λ (j : ℕ). drop j (u ++ zeros 8)) past ∙ drop-append-add u (zeros 8) 8) p))
    ∙ ap (λ (s : List ℕ). u ++ s) (append-nil L)
    ∙ append_assoc d (128 ∷ zeros q) L

module _ (m : List ℕ) (i : ℕ) where
  -- before the last bytes: the message's own
  pub whole-block : i < length m / 64 → filled (at m (i * 64) 64) ≡ at (padded m) (i * 64) 64
  unfolding padded
  whole-block h =
      let n : i * 64 + 64 ≤ length m = omega arith in
      filled-whole (at m (i * 64) 64) (length_at m (i * 64) 64 n) ∙ sym (at_first m (padding (length m)) (i * 64) 64 n)

  pub own_block : i < length m / 64 → at (padded m) (i * 64) 64 ≡ at m (i * 64) 64
  unfolding padded
  own_block h = at_first m (padding (length m)) (i * 64) 64 (omega arith)

  module _ (e : i ≡ length m / 64) where
    rest-length : length (drop (i * 64) m) ≡ length m % 64
    rest-length = length-drop (i * 64) m ∙ omega (arith, e)

    rest : at m (i * 64) 64 ≡ drop (i * 64) m
    unfolding at
    rest = take_all 64 (drop (i * 64) m) (omega (arith, rest-length))

    -- the block that the message ends in: its last bytes, and the first of the padding
    last_of_lem : at (padded m) (i * 64) 64 ≡ drop (i * 64) m ++ take (64 - length m % 64) (padding (length m))
    unfolding padded at
    last_of_lem =
        ap (take 64) (drop-append-le (i * 64) m (padding (length m)) (omega (arith, e)))
        ∙ take_append 64 (drop (i * 64) m) (padding (length m))
        ∙ (λ p. rest p ++ take (64 - (ap length rest ∙ rest-length) p) (padding (length m)))

    marked : set (filled (at m (i * 64) 64)) (length m % 64) 128 ≡ drop (i * 64) m ++ (128 ∷ zeros (63 - length m % 64))
    marked =
        let n : 64 - length (drop (i * 64) m) ≡ suc (63 - length m % 64) = omega (arith, rest-length) in
        ap (λ (s : List ℕ). set (filled s) (length m % 64) 128) rest
        ∙ ap (λ (k : ℕ). set (drop (i * 64) m ++ zeros k) (length m % 64) 128) n
        ∙ set_at (drop (i * 64) m) 0 (zeros (63 - length m % 64)) 128 (length m % 64) rest-length

    -- no room for the length after it
    pub crowded-block : 56 ≤ length m % 64 → set (filled (at m (i * 64) 64)) (length m % 64) 128 ≡ at (padded m) (i * 64) 64
    unfolding padding
    crowded-block h =
        let z : List ℕ = zeros ((119 - length m % 64) % 64) in
        let n : 64 - length m % 64 ≡ suc (63 - length m % 64) = omega arith in
        let le : 63 - length m % 64 ≤ length z = rw (length-replicate {A = ℕ} ((119 - length m % 64) % 64) 0) (omega arith) in
        let t : take (64 - length m % 64) (padding (length m)) ≡ 128 ∷ zeros (63 - length m % 64) =
        ap (λ (k : ℕ). take k (padding (length m))) n
        ∙ ap (λ (s : List ℕ). 128 ∷ s) (lib.Seq.take-append-le (63 - length m % 64) z (bit_length (length m)) le ∙ take_zeros ((119 - length m % 64) % 64) (63 - length m % 64) (omega arith)) in
        marked ∙ ap (λ (s : List ℕ). drop (i * 64) m ++ s) (sym t) ∙ sym last_of_lem

    -- room for it
    pub roomy-block : length m % 64 < 56 → set_down (set (filled (at m (i * 64) 64)) (length m % 64) 128) 56 (bit_length (length m)) ≡ at (padded m) (i * 64) 64
    unfolding padding
    roomy-block h =
        let q : 63 - length m % 64 ≡ (55 - length m % 64) + 8 = omega arith in
        let n : (119 - length m % 64) % 64 ≡ 55 - length m % 64 = omega arith in
        ap (λ (s : List ℕ). set_down s 56 (bit_length (length m))) (marked ∙ ap (λ (k : ℕ). drop (i * 64) m ++ (128 ∷ zeros k)) q)
        ∙ length_in (bit_length (length m)) (length_bits (length m)) (drop (i * 64) m) (55 - length m % 64) (omega (arith, rest-length))
        ∙ ap (λ (k : ℕ). drop (i * 64) m ++ (128 ∷ (zeros k ++ bit_length (length m)))) (sym n)
        ∙ ap (λ (s : List ℕ). drop (i * 64) m ++ s) (sym (take_all (64 - length m % 64) (padding (length m)) (omega (arith, length_padding (length m)))))
        ∙ sym last_of_lem

  -- after it: zeros and the length
  pub length-block : length m / 64 < i → i < length (padded m) / 64 → set_down (zeros 64) 56 (bit_length (length m)) ≡ at (padded m) (i * 64) 64
  unfolding padded padding
  length-block h g =
      let j : (i ≡ length m / 64 + 1) × (56 ≤ length m % 64) = omega (arith, length_padded m) in
      let n : (119 - length m % 64) % 64 ≡ (63 - length m % 64) + 56 = omega (arith, j.1) in
      let p : i * 64 ≡ length m + suc (63 - length m % 64) = omega (arith, j.0) in
      length_after (bit_length (length m)) (length_bits (length m)) m (63 - length m % 64)
      ∙ ap (λ (q : ℕ). at (m ++ (128 ∷ (zeros q ++ bit_length (length m)))) (length m + suc (63 - length m % 64)) 64) (sym n)
      ∙ ap (λ (q : ℕ). at (m ++ (128 ∷ (zeros ((119 - length m % 64) % 64) ++ bit_length (length m)))) q 64) (sym p)

-- ---- the blocks of a message in two parts

-- a block that lies whole in the second part
pub lying_block : (a b : List ℕ) (i : ℕ) → length a ≤ i * 64 → i < (length a + length b) / 64 → at b (i * 64 - length a) 64 ≡ at (padded (a ++ b)) (i * 64) 64
lying_block a b i h g = sym (own_block (a ++ b) i (rw (length-append a b) g) ∙ at_second a b (i * 64) 64 h)

-- both parts' lengths tell how many blocks there are
pub count_of : (a b : List ℕ) (n : ℕ) → n ≡ (length a + length b + length (padding (length a + length b))) / 64 → n ≡ block_count (a ++ b)
unfolding block_count
count_of a b n e = e ∙ sym (padded-count (a ++ b) ∙ ap (λ (l : ℕ). (l + length (padding l)) / 64) (length-append a b))

-- ---- the words of a block

-- a block that lies whole in the second part
pub lying_words : (a b : List ℕ) (i : ℕ) → length a ≤ i * 64 → i < (length a + length b) / 64 → words_of (at b (i * 64 - length a) 64) ≡ block_words (a ++ b) i
unfolding block_words
lying_words a b i h g = ap words_of (lying_block a b i h g)

-- a block that was put together
pub made-words : (b m : List ℕ) (i : ℕ) → b ≡ at (padded m) (i * 64) 64 → words_of b ≡ block_words m i
unfolding block_words
made-words b m i e = ap words_of e

-- past the last block there are no bytes, and so words of 0
no_words : zeros 16 ≡ words_of []
unfolding words_of made u32_at
no_words = refl

pub past_words : (m : List ℕ) (i : ℕ) → block_count m ≤ i → zeros 16 ≡ block_words m i
unfolding block_words block_count
past_words m i h = no_words ∙ ap words_of (sym (at-past (padded m) (i * 64) 64 (omega (arith, length_padded m))))
