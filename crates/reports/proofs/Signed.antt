-- The difference of two sums fits a signed 64-bit number, since each is below half of its range. Assumes nothing.
use mathlib.Core.Path.{◌≡◌}
use Prim.Native.Nat.{ℕ, zero, suc, ◌+◌, ◌-◌, ◌<◌, ◌^◌}
use mathlib.Core.Bool.{Bool, true, false, cond}
use native.Mathlib.Omega.{arith}
use lib.Dec.{ltb}
use lib.IntN.{ℤ, pos, negsuc, ◌-ℤ◌}
use lib.Signed.{mag}
use mir.Syntax.{w64}
use mir.Val.{SFits, to_z}
use mir.Facts.{to_z_pos}

pub from_two : (a b : ℕ) → a < 4611686018427387904 → b < 4611686018427387904 → to_z w64 a -ℤ to_z w64 b ≡ pos a -ℤ pos b
from_two a b h g = λ j. to_z_pos w64 {n = a} (omega (arith, h)) j -ℤ to_z_pos w64 {n = b} (omega (arith, g)) j

pub fits_two : (a b : ℕ) → a < 4611686018427387904 → b < 4611686018427387904 → SFits w64 (pos a -ℤ pos b)
fits_two a zero h g = record { sfits = omega (arith, h) }
fits_two a (suc b) h g = go (ltb a (suc b))
  where
    go : (t : Bool) → SFits w64 (cond t (negsuc (suc b - suc a)) (pos (a - suc b)))
    go true = record { sfits = omega (arith, g) }
    go false = record { sfits = omega (arith, h) }
