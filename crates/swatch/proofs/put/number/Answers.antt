-- `put::number` meets its contract: one, two or three digits. Assumes nothing.
use mathlib.Core.Path.{sym}
use Rattle.swatch.proofs.Puts.{puts_as, puts_one}
use Rattle.swatch.proofs.Words.{decimal-one, decimal_two, decimal_three}
use Rattle.swatch.proofs.put.number.Goals as goal

pub returns-then-n-lt10 : goal.returns-then-n-lt10
returns-then-n-lt10 c = λ h. puts_as (puts_one c.byte.ensures c.digit.ensures) (sym (decimal-one _ c.if-n-lt10.true))

pub returns-then-n-lt100 : goal.returns-then-n-lt100
returns-then-n-lt100 c = λ h. puts_as c.tens.ensures (sym (decimal_two _ c.if-n-lt10.false c.if-n-lt100.true))

pub returns : goal.returns
returns c = λ h. puts_as c.hundreds.ensures (sym (decimal_three _ c.if-n-lt100.false h))
