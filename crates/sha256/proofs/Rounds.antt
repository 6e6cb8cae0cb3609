-- Laws of SHA-256's schedule and rounds: a word of the block or one made of four before it, and all rounds with their sum. Assumes nothing.
use Rattle.std.proofs.Common.{◌≡◌, ℕ, ◌+◌, ◌-◌, ◌*◌, ◌<◌, ◌≤◌, List, length, get_or, take, sym, refl, ap, ◌∙◌, arith, le-ltb, lt-ltb}
use Rattle.digest.specs.Words.{add32}
use Rattle.digest.specs.Blocks.{made, times}
use Rattle.digest.proofs.Lists.{made_at}
use Rattle.sha256.specs.Sha256.{word256, schedule256, small_a, small_e, round256, sum256, compress256}
use Rattle.sha256.specs.declared.Eight.{Eight}

-- ---- the words of the schedule

pub own-word256 : (m : List ℕ) (t v : ℕ) (w : List ℕ) → t < 16 → v ≡ get_or m t 0 → v ≡ word256 m t w
unfolding word256
own-word256 m t v w h e = e ∙ sym (simp (lt-ltb t 16 h))

module _ (m w : List ℕ) (t v : ℕ) (h : 16 ≤ t) where
  pub new-word256 : take t w ≡ made (word256 m) t
      → v ≡ add32 (add32 (add32 (small_e (get_or w (t - 2) 0)) (get_or w (t - 7) 0)) (small_a (get_or w (t - 15) 0))) (get_or w (t - 16) 0)
      → v ≡ word256 m t (made (word256 m) t)
  unfolding word256
  new-word256 e q =
      let g : (k : ℕ) → k < t → get_or w k 0 ≡ get_or (made (word256 m) t) k 0 = made_at (word256 m) w t e in
      q
      ∙ (λ p. add32 (add32 (add32 (small_e (g (t - 2) (omega arith) p)) (g (t - 7) (omega arith) p)) (small_a (g (t - 15) (omega arith) p))) (g (t - 16) (omega arith) p))
      ∙ sym (simp (le-ltb t 16 h))

-- ---- all rounds, and the sum with the state before them

pub compressed256 : (h v : Eight) (m w : List ℕ) (t : ℕ) → w ≡ schedule256 m → t ≡ 64 → v ≡ times (round256 w) t h → sum256 h v ≡ compress256 h m
unfolding compress256
compressed256 h v m w t ew et ev = ap (sum256 h) (ev ∙ (λ p. times (round256 (ew p)) (et p) h))
