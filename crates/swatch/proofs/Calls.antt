-- Every call's number of parents is below a thousand, and fewer calls are left after it. Assumes nothing.
use mathlib.Core.Path.{ap}
use mathlib.Core.List.{List}
use Prim.Native.Nat.{ℕ, ◌<◌}
use native.Mathlib.Omega.{arith}
use Rattle.walk.specs.declared.Outcome.{Outcome}
use Rattle.walk.specs.declared.Outcome.TheVariants.{Commit, End, Refused}
use Rattle.walk.specs.Given.{Given, given, calls_after}
use Rattle.traverse.specs.Contract.{OfPaper}

pub few-parents : {w : ℕ} {a : Given} {b b' : List ℕ} → OfPaper w a b b' → a.info.parents < 1000
unfolding given
few-parents p = omega (arith, p.few, ap (λ (q : Given). q.info.parents) p.is)

-- and calls are fewer after one
pub left_less : (o : Outcome) (n : ℕ) → 0 < n → calls_after n o < n
left_less Commit n h = omega arith
left_less End n h = h
left_less (Refused r) n h = omega arith
