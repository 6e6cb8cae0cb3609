-- `refill::without_frontier` meets its contract: the queue is drained, and filled again without the frontier. Assumes nothing.
use mathlib.Core.Path.{refl}
use native.Mathlib.Omega.{arith}
use Rattle.refill.proofs.Refilling.{sifts, sifts_not}
use Rattle.refill.proofs.without_frontier.Goals as goal

pub returns-then-line-cap : goal.returns-then-line-cap
returns-then-line-cap c = sifts_not (λ room few. omega (arith, c.if-line-cap.true))

pub returns-then-cap-n : goal.returns-then-cap-n
returns-then-cap-n c = sifts_not (λ room few. omega (arith, c.if-cap-n.true))

pub returns : goal.returns
returns c = sifts refl c.emptied.ensures c.drain.ensures c.refill.ensures
