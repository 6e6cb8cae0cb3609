-- SHA-1 (FIPS 180-4, sections 4.1.1, 4.2.1, 5.3.1, 6.1). Assumes nothing.
use Rattle.std.specs.Prelude.{ℕ, ◌-◌, List, ◌++◌, bit_xor, nat_lt, slice_index}
use Rattle.hash.specs.Bytes.{pick}
use Rattle.digest.specs.Words.{add32, rotl, choose, parity, majority, word_bytes}
use Rattle.digest.specs.Blocks.{times, made, digest}
use Rattle.sha1_hash.specs.declared.Five.{Five}

-- the words of the schedule: those of the block, then each of four before it
unfoldable pub word1 : List ℕ → ℕ → List ℕ → ℕ
word1 m t w =
    pick (nat_lt t 16) (slice_index m t)
    (rotl 1 (bit_xor (bit_xor (bit_xor (slice_index w (t - 3)) (slice_index w (t - 8))) (slice_index w (t - 14))) (slice_index w (t - 16))))

abbrev pub schedule1 : List ℕ → List ℕ
schedule1 m = made (word1 m) 80

unfoldable pub mix1 : ℕ → ℕ → ℕ → ℕ → ℕ
mix1 t x y z = pick (nat_lt t 20) (choose x y z) (pick (nat_lt t 40) (parity x y z) (pick (nat_lt t 60) (majority x y z) (parity x y z)))

unfoldable pub constant1 : ℕ → ℕ
constant1 t = pick (nat_lt t 20) 0x5a827999 (pick (nat_lt t 40) 0x6ed9eba1 (pick (nat_lt t 60) 0x8f1bbcdc 0xca62c1d6))

-- a round, of the mixed words f, the constant k and the word w
abbrev pub turn1 : Five → ℕ → ℕ → ℕ → Five
turn1 s f k w = record { a = add32 (add32 (add32 (add32 (rotl 5 s.a) f) s.e) k) w; b = s.a; c = rotl 30 s.b; d = s.c; e = s.d }

unfoldable pub round1 : List ℕ → ℕ → Five → Five
round1 w t s = turn1 s (mix1 t s.b s.c s.d) (constant1 t) (slice_index w t)

abbrev pub sum1 : Five → Five → Five
sum1 h s = record { a = add32 h.a s.a; b = add32 h.b s.b; c = add32 h.c s.c; d = add32 h.d s.d; e = add32 h.e s.e }

-- a block of 16 words compressed into the state
unfoldable pub compress1 : Five → List ℕ → Five
compress1 h m = let w = schedule1 m in sum1 h (times (round1 w) 80 h)

abbrev pub first1 : Five
first1 = record { a = 0x67452301; b = 0xefcdab89; c = 0x98badcfe; d = 0x10325476; e = 0xc3d2e1f0 }

abbrev pub bytes1 : Five → List ℕ
bytes1 s = word_bytes s.a ++ (word_bytes s.b ++ (word_bytes s.c ++ (word_bytes s.d ++ word_bytes s.e)))

unfoldable pub sha1 : List ℕ → List ℕ
sha1 m = digest first1 compress1 bytes1 m
