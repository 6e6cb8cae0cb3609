-- `feeds::is_low` meets its contract: the four counts, then the four sums. Assumes nothing.
use mathlib.Core.Path.{refl}
use native.Mathlib.Omega.{arith}
use Rattle.hash.proofs.Tests.{clash}
use borrow.Author.Rules.{rules}
use Rattle.tally.proofs.feeds.is_low.Goals as goal

pub returns-then-are_low : goal.returns-then-are_low
returns-then-are_low c = let x = c.are_low.ensures.0 c.if-are_low.true in (λ e. let y = c.are_low-then-are_low.ensures.0 e in record { both = x.0; cone = x.1; bed = x.2; neither = x.3; cone-sum = omega (arith, y.0); bed-sum = omega (arith, y.1); paired-cone = omega (arith, y.2); paired-bed = omega (arith, y.3) }, λ l. c.are_low-then-are_low.ensures.1 (omega (arith, l.cone-sum), omega (arith, l.bed-sum), omega (arith, l.paired-cone), omega (arith, l.paired-bed)))

pub returns-else-are_low : goal.returns-else-are_low
returns-else-are_low c = (λ e. clash e refl, λ l. clash (c.are_low.ensures.1 (l.both, l.cone, l.bed, l.neither)) c.if-are_low.false)
