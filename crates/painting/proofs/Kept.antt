-- What painting leaves as it was is what its end needs: a slot that held an id holds it still, and the line is the same below 2 · P.
-- Assumes nothing.
use mathlib.Core.Path.{◌≡◌, sym, ap, ◌∙◌}
use Prim.Native.Nat.{ℕ, ◌*◌, ◌<◌}
use mathlib.Core.Bool.{false}
use mathlib.Core.List.{List}
use native.Mathlib.Omega.{arith}
use lib.ListN.{length, take, get_or}
use lib.Seq.{get_or-take}
use Rattle.hashtable.specs.Table.{Table}
use Rattle.state.specs.Reads.{Memory}
use Rattle.frontier.specs.Paint.{Spares}
use Rattle.refill.specs.Painted.{Painted}
use Rattle.painting.proofs.Ready.{lent_of}

below-same : (a b : List ℕ) (n k : ℕ) → take n b ≡ take n a → k < n → get_or a k 0 ≡ get_or b k 0
below-same a b n k e h = sym (get_or-take n a k 0 h) ∙ ap (λ (l : List ℕ). get_or l k 0) (sym e) ∙ get_or-take n b k 0 h

pub spared : {width : ℕ} {cap : ℕ} {m m' : Memory} {levels levels' : List ℕ} → Spares width cap (2 * cap) (lent_of m levels) (lent_of m' levels') → Table width false m'.names m'.marks cap
    → length m'.times ≡ length m.times → length m'.line ≡ length m.line → Painted width m m' cap
spared {width} {cap} {m} {m'} s t lt ll = record {
  table = t;
  seen_same = s.seen_same;
  still = λ x k h. let n = s.taken k h.low h.alive in record { low = h.low; alive = n.0; is = n.1 ∙ h.is };
  long-times = lt;
  long-line = ll;
  line_same = λ k h. below-same m.line m'.line (2 * cap) k s.below (omega arith);
}
