-- `feeds::are_low` meets its contract: the first that is too great decides. Assumes nothing.
use mathlib.Core.Path.{refl}
use native.Mathlib.Omega.{arith}
use Rattle.hash.proofs.Tests.{clash}
use borrow.Author.Rules.{rules}
use Rattle.tally.proofs.feeds.are_low.Goals as goal

pub returns-then-most-a : goal.returns-then-most-a
returns-then-most-a c = (λ e. clash e refl, λ l. absurd (omega (arith, l.0, c.if-most-a.true)))

pub returns-then-most-b : goal.returns-then-most-b
returns-then-most-b c = (λ e. clash e refl, λ l. absurd (omega (arith, l.1, c.if-most-b.true)))

pub returns-then-most-c : goal.returns-then-most-c
returns-then-most-c c = (λ e. clash e refl, λ l. absurd (omega (arith, l.2, c.if-most-c.true)))

pub returns-then-most-d : goal.returns-then-most-d
returns-then-most-d c = (λ e. clash e refl, λ l. absurd (omega (arith, l.3, c.if-most-d.true)))
