-- Laws of SHA-1's schedule and rounds: a word of the block or one made of four before it, and the four kinds of round. Assumes nothing.
use Rattle.std.proofs.Common.{◌≡◌, ℕ, ◌+◌, ◌-◌, ◌*◌, ◌<◌, ◌≤◌, List, length, get_or, take, sym, refl, ap, ◌∙◌, arith, le-ltb, lt-ltb}
use lib.Bits.{bit_xor}
use Rattle.digest.specs.Words.{rotl, choose, parity, majority}
use Rattle.digest.specs.Blocks.{made, times}
use Rattle.digest.proofs.Lists.{made_at}
use Rattle.sha1_hash.specs.Sha1.{word1, schedule1, mix1, constant1, turn1, round1, sum1, compress1}
use Rattle.sha1_hash.specs.declared.Five.{Five}

-- ---- the words of the schedule

pub own-word1 : (m : List ℕ) (t v : ℕ) (w : List ℕ) → t < 16 → v ≡ get_or m t 0 → v ≡ word1 m t w
unfolding word1
own-word1 m t v w h e = e ∙ sym (simp (lt-ltb t 16 h))

module _ (m w : List ℕ) (t v : ℕ) (h : 16 ≤ t) where
  pub new-word1 : take t w ≡ made (word1 m) t → v ≡ rotl 1 (bit_xor (bit_xor (bit_xor (get_or w (t - 3) 0) (get_or w (t - 8) 0)) (get_or w (t - 14) 0)) (get_or w (t - 16) 0))
      → v ≡ word1 m t (made (word1 m) t)
  unfolding word1
  new-word1 e q =
      let g : (k : ℕ) → k < t → get_or w k 0 ≡ get_or (made (word1 m) t) k 0 = made_at (word1 m) w t e in
      q
      ∙ (λ p. rotl 1 (bit_xor (bit_xor (bit_xor (g (t - 3) (omega arith) p) (g (t - 8) (omega arith) p)) (g (t - 14) (omega arith) p)) (g (t - 16) (omega arith) p)))
      ∙ sym (simp (le-ltb t 16 h))

-- ---- the four kinds of round

module _ (w : List ℕ) (t : ℕ) (s r : Five) (f : ℕ) where
  pub round-choose : t < 20 → f ≡ choose s.b s.c s.d → r ≡ turn1 s f 0x5a827999 (get_or w t 0) → r ≡ round1 w t s
  unfolding round1 mix1 constant1
  round-choose h e q = q ∙ ap (λ (x : ℕ). turn1 s x 0x5a827999 (get_or w t 0)) e ∙ sym (simp (lt-ltb t 20 h))

  pub round-parity : 20 ≤ t → t < 40 → f ≡ parity s.b s.c s.d → r ≡ turn1 s f 0x6ed9eba1 (get_or w t 0) → r ≡ round1 w t s
  unfolding round1 mix1 constant1
  round-parity g h e q = q ∙ ap (λ (x : ℕ). turn1 s x 0x6ed9eba1 (get_or w t 0)) e ∙ sym (simp (le-ltb t 20 g, lt-ltb t 40 h))

  pub round-majority : 40 ≤ t → t < 60 → f ≡ majority s.b s.c s.d → r ≡ turn1 s f 0x8f1bbcdc (get_or w t 0) → r ≡ round1 w t s
  unfolding round1 mix1 constant1
  round-majority g h e q =
      q ∙ ap (λ (x : ℕ). turn1 s x 0x8f1bbcdc (get_or w t 0)) e ∙ sym (simp (le-ltb t 20 (omega arith), le-ltb t 40 g, lt-ltb t 60 h))

  pub round-last : 60 ≤ t → f ≡ parity s.b s.c s.d → r ≡ turn1 s f 0xca62c1d6 (get_or w t 0) → r ≡ round1 w t s
  unfolding round1 mix1 constant1
  round-last g e q =
      q ∙ ap (λ (x : ℕ). turn1 s x 0xca62c1d6 (get_or w t 0)) e ∙ sym (simp (le-ltb t 20 (omega arith), le-ltb t 40 (omega arith), le-ltb t 60 g))

-- ---- all rounds, and the sum with the state before them

pub compressed1 : (h v : Five) (m w : List ℕ) (t : ℕ) → w ≡ schedule1 m → t ≡ 80 → v ≡ times (round1 w) t h → sum1 h v ≡ compress1 h m
unfolding compress1
compressed1 h v m w t ew et ev = ap (sum1 h) (ev ∙ (λ p. times (round1 (ew p)) (et p) h))
