-- What the digests of FIPS 180-4 share: the padding of a message (5.1.1), its blocks of 16 words (5.2.1), and the computation over them
-- (6.1.2, 6.2.2), for any state and any compression of a block into it. Assumes nothing.
use Rattle.std.specs.Prelude.{ℕ, zero, suc, ◌+◌, ◌-◌, ◌*◌, ◌/◌, ◌%◌, ◌^◌, List, [], ◌∷◌, ◌++◌, length, replicate}
use Rattle.hash.specs.Bytes.{at, u32_at}
use Rattle.digest.specs.Words.{word_bytes}

-- f 0, f 1, .. f (n - 1), applied to s in that order
unfoldable pub times : {S : Type 0} → (ℕ → S → S) → ℕ → S → S
times f zero s = s
times f (suc n) s = f n (times f n s)

-- a list made element by element: the element at n is f of n and of the elements before it
unfoldable pub made : (ℕ → List ℕ → ℕ) → ℕ → List ℕ
made f zero = []
made f (suc n) = let s = made f n in s ++ (f n s ∷ [])

-- n bytes 0
abbrev pub zeros : ℕ → List ℕ
zeros n = replicate n 0

-- the length of a message in bits, in 8 bytes
unfoldable pub bit_length : ℕ → List ℕ
bit_length l = word_bytes (8 * l / 2 ^ 32) ++ word_bytes (8 * l)

-- what follows a message of l bytes: a bit 1, the least number of bits 0 that fill the block, the length
unfoldable pub padding : ℕ → List ℕ
padding l = 128 ∷ (zeros ((119 - l % 64) % 64) ++ bit_length l)

unfoldable pub padded : List ℕ → List ℕ
padded m = m ++ padding (length m)

-- a word of a block, and the words of a block: the words before are not looked at
abbrev pub block_word : List ℕ → ℕ → List ℕ → ℕ
block_word b t w = u32_at b (t * 4)

unfoldable pub words_of : List ℕ → List ℕ
words_of b = made (block_word b) 16

-- how many blocks a message has, and the words of one
unfoldable pub block_count : List ℕ → ℕ
block_count m = length (padded m) / 64

unfoldable pub block_words : List ℕ → ℕ → List ℕ
block_words m i = words_of (at (padded m) (i * 64) 64)

-- a message's blocks, compressed into a state one after the other
abbrev pub folds : {S : Type 0} → (S → List ℕ → S) → List ℕ → ℕ → S → S
folds compress m n first = times (λ i h. compress h (block_words m i)) n first

-- the digest: the state is set to its first value, each block is compressed into it, and its bytes are written out
unfoldable pub digest : {S : Type 0} → S → (S → List ℕ → S) → (S → List ℕ) → List ℕ → List ℕ
digest first compress bytes m = bytes (folds compress m (block_count m) first)

-- a part of a block, with zeros after it
abbrev pub filled : List ℕ → List ℕ
filled s = s ++ zeros (64 - length s)
