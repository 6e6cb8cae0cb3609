-- `terms::bump` meets its contract: a count is small, and a place past the end is none. Assumes nothing.
use native.Mathlib.Omega.{arith}
use Rattle.tally.proofs.Counting.{set_bumped, past-bumped}
use borrow.Author.Rules.{rules}
use Rattle.tally.proofs.terms.bump.Goals as goal

pub returns-then-n-lt18446744073709551615 : goal.returns-then-n-lt18446744073709551615
returns-then-n-lt18446744073709551615 c = λ f. set_bumped c.args.counts.now c.args.k c.if-k-counts.true

pub returns-else-n-lt18446744073709551615 : goal.returns-else-n-lt18446744073709551615
returns-else-n-lt18446744073709551615 c = λ f. absurd (omega (arith, f c.args.k, c.if-n-lt18446744073709551615.false))

pub returns-else-k-counts : goal.returns-else-k-counts
returns-else-k-counts c = λ f. past-bumped c.args.counts.now c.args.k c.if-k-counts.false
