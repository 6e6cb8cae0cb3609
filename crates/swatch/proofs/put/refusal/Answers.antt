-- `put::refusal` meets its contract: its parts, one behind the other. Assumes nothing.
use mathlib.Core.Path.{ap}
use native.Mathlib.Omega.{arith}
use Rattle.swatch.specs.Text.{decimal, refusal_line}
use Rattle.swatch.proofs.Puts.{puts_then, puts_as}
use Rattle.walk.proofs.Outcomes.{refusal_number_between}
use Rattle.swatch.proofs.put.refusal.Goals as goal

pub returns : goal.returns
unfolding refusal_line
returns c = puts_then c.byte-mark.ensures
    (puts_then c.byte-space.ensures
    (puts_then (puts_as (c.number-after.ensures (omega (arith, c.number.ensures, refusal_number_between c.args.r))) (ap decimal c.number.ensures)) c.byte.ensures))
