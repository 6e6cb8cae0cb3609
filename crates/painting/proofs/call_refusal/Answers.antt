-- `painting::call_refusal` meets its contract: the number decides. Assumes nothing.
use Rattle.painting.proofs.Finish.{refuses_low, refuses_high}
use Rattle.painting.proofs.call_refusal.Goals as goal

pub returns-then-k-lt9 : goal.returns-then-k-lt9
returns-then-k-lt9 c = refuses_low c.number-k.ensures c.if-k-lt9.true

pub returns-then-k-gt11 : goal.returns-then-k-gt11
returns-then-k-gt11 c = refuses_high c.number-k.ensures c.if-k-gt11.true
