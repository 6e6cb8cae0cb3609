-- `is_low` meets its contract: the first that is too great decides. Assumes nothing.
use mathlib.Core.Path.{refl}
use native.Mathlib.Omega.{arith}
use Rattle.hash.proofs.Tests.{clash}
use borrow.Author.Rules.{rules}
use Rattle.tally.proofs.is_low.Goals as goal

pub returns-then-t-gt4294967296 : goal.returns-then-t-gt4294967296
returns-then-t-gt4294967296 c = (λ e. clash e refl, λ l. absurd (omega (arith, l.commits, c.if-t-gt4294967296.true)))

pub returns-then-t-gt4294967296-2 : goal.returns-then-t-gt4294967296-2
returns-then-t-gt4294967296-2 c = (λ e. clash e refl, λ l. absurd (omega (arith, l.refused, c.if-t-gt4294967296-2.true)))

pub returns-then-t-gt4294967296-3 : goal.returns-then-t-gt4294967296-3
returns-then-t-gt4294967296-3 c = (λ e. clash e refl, λ l. absurd (omega (arith, l.outside, c.if-t-gt4294967296-3.true)))

pub returns : goal.returns
returns c = (λ e. record { commits = omega (arith, c.if-t-gt4294967296.false); refused = omega (arith, c.if-t-gt4294967296-2.false); feeds = c.is_low.ensures.0 e; outside = omega (arith, c.if-t-gt4294967296-3.false) }, λ l. c.is_low.ensures.1 l.feeds)
