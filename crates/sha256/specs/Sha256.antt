-- SHA-256 (FIPS 180-4, sections 4.1.2, 4.2.2, 5.3.3, 6.2). Assumes nothing.
use Rattle.std.specs.Prelude.{ℕ, ◌-◌, List, [], ◌∷◌, ◌++◌, bit_xor, nat_lt, slice_index}
use Rattle.hash.specs.Bytes.{pick}
use Rattle.digest.specs.Words.{add32, rotr, shr, choose, majority, word_bytes}
use Rattle.digest.specs.Blocks.{times, made, digest}
use Rattle.sha256.specs.declared.Eight.{Eight}

-- the functions Σ0, Σ1, σ0, σ1 (4.1.2)
abbrev pub sigma_a : ℕ → ℕ
sigma_a x = bit_xor (bit_xor (rotr 2 x) (rotr 13 x)) (rotr 22 x)

abbrev pub sigma_e : ℕ → ℕ
sigma_e x = bit_xor (bit_xor (rotr 6 x) (rotr 11 x)) (rotr 25 x)

abbrev pub small_a : ℕ → ℕ
small_a x = bit_xor (bit_xor (rotr 7 x) (rotr 18 x)) (shr 3 x)

abbrev pub small_e : ℕ → ℕ
small_e x = bit_xor (bit_xor (rotr 17 x) (rotr 19 x)) (shr 10 x)

-- the constants (4.2.2)
unfoldable pub constants256 : List ℕ
constants256 =
    0x428a2f98 ∷ 0x71374491 ∷ 0xb5c0fbcf ∷ 0xe9b5dba5 ∷ 0x3956c25b ∷ 0x59f111f1 ∷ 0x923f82a4 ∷ 0xab1c5ed5 ∷
    0xd807aa98 ∷ 0x12835b01 ∷ 0x243185be ∷ 0x550c7dc3 ∷ 0x72be5d74 ∷ 0x80deb1fe ∷ 0x9bdc06a7 ∷ 0xc19bf174 ∷
    0xe49b69c1 ∷ 0xefbe4786 ∷ 0x0fc19dc6 ∷ 0x240ca1cc ∷ 0x2de92c6f ∷ 0x4a7484aa ∷ 0x5cb0a9dc ∷ 0x76f988da ∷
    0x983e5152 ∷ 0xa831c66d ∷ 0xb00327c8 ∷ 0xbf597fc7 ∷ 0xc6e00bf3 ∷ 0xd5a79147 ∷ 0x06ca6351 ∷ 0x14292967 ∷
    0x27b70a85 ∷ 0x2e1b2138 ∷ 0x4d2c6dfc ∷ 0x53380d13 ∷ 0x650a7354 ∷ 0x766a0abb ∷ 0x81c2c92e ∷ 0x92722c85 ∷
    0xa2bfe8a1 ∷ 0xa81a664b ∷ 0xc24b8b70 ∷ 0xc76c51a3 ∷ 0xd192e819 ∷ 0xd6990624 ∷ 0xf40e3585 ∷ 0x106aa070 ∷
    0x19a4c116 ∷ 0x1e376c08 ∷ 0x2748774c ∷ 0x34b0bcb5 ∷ 0x391c0cb3 ∷ 0x4ed8aa4a ∷ 0x5b9cca4f ∷ 0x682e6ff3 ∷
    0x748f82ee ∷ 0x78a5636f ∷ 0x84c87814 ∷ 0x8cc70208 ∷ 0x90befffa ∷ 0xa4506ceb ∷ 0xbef9a3f7 ∷ 0xc67178f2 ∷ []

-- the words of the schedule: those of the block, then each of four before it
unfoldable pub word256 : List ℕ → ℕ → List ℕ → ℕ
word256 m t w =
    pick (nat_lt t 16) (slice_index m t)
    (add32 (add32 (add32 (small_e (slice_index w (t - 2))) (slice_index w (t - 7))) (small_a (slice_index w (t - 15)))) (slice_index w (t - 16)))

abbrev pub schedule256 : List ℕ → List ℕ
schedule256 m = made (word256 m) 64

-- the two sums of a round
abbrev pub sum_e : Eight → ℕ → ℕ → ℕ
sum_e s k w = add32 (add32 (add32 (add32 s.h (sigma_e s.e)) (choose s.e s.f s.g)) k) w

abbrev pub sum_a : Eight → ℕ
sum_a s = add32 (sigma_a s.a) (majority s.a s.b s.c)

-- a round, of the constant k and the word w
abbrev pub turn256 : Eight → ℕ → ℕ → Eight
turn256 s k w =
    record { a = add32 (sum_e s k w) (sum_a s); b = s.a; c = s.b; d = s.c; e = add32 s.d (sum_e s k w); f = s.e; g = s.f; h = s.g }

unfoldable pub round256 : List ℕ → ℕ → Eight → Eight
round256 w t s = turn256 s (slice_index constants256 t) (slice_index w t)

abbrev pub sum256 : Eight → Eight → Eight
sum256 x s =
    record {
      a = add32 x.a s.a;
      b = add32 x.b s.b;
      c = add32 x.c s.c;
      d = add32 x.d s.d;
      e = add32 x.e s.e;
      f = add32 x.f s.f;
      g = add32 x.g s.g;
      h = add32 x.h s.h;
    }

-- a block of 16 words compressed into the state
unfoldable pub compress256 : Eight → List ℕ → Eight
compress256 x m = let w = schedule256 m in sum256 x (times (round256 w) 64 x)

abbrev pub first256 : Eight
first256 =
    record { a = 0x6a09e667; b = 0xbb67ae85; c = 0x3c6ef372; d = 0xa54ff53a; e = 0x510e527f; f = 0x9b05688c; g = 0x1f83d9ab; h = 0x5be0cd19 }

abbrev pub bytes256 : Eight → List ℕ
bytes256 s =
    word_bytes s.a
    ++ (word_bytes s.b
    ++ (word_bytes s.c ++ (word_bytes s.d ++ (word_bytes s.e ++ (word_bytes s.f ++ (word_bytes s.g ++ word_bytes s.h))))))

unfoldable pub sha256 : List ℕ → List ℕ
sha256 m = digest first256 compress256 bytes256 m
