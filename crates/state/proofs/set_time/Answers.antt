-- `state::set_time` meets its contract: only a queue by time has seconds. Assumes nothing.
use mathlib.Core.Path.{sym, ◌∙◌, ap}
use mathlib.Core.Bool.{Bool, cond}
use lib.ListN.{set}
use Rattle.state.proofs.set_time.Goals as goal

pub returns-then-timed : goal.returns-then-timed
returns-then-timed c = let x = c.args in
    c.set_seconds.ensures ∙ sym (ap (λ (b : Bool). cond b (set x.times.now x.slot x.s.0) x.times.now) c.if-timed.true)
