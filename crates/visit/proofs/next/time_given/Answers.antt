-- `visit::next::time_given` meets its contract: the test decides. Assumes nothing.
use mathlib.Core.Path.{sym, ap}
use mathlib.Core.Bool.{Bool}
use Rattle.visit.specs.Taking.{time_given}
use Rattle.visit.proofs.next.time_given.Goals as goal

pub returns-then-timed : goal.returns-then-timed
returns-then-timed c = let a = c.args in ap (λ (b : Bool). time_given b a.s) (sym c.if-timed.true)
