-- `slots::is_below` meets its contract: it asks of the two slots' pairs which is less. Assumes nothing.
use mathlib.Core.Path.{ap, ◌∙◌}
use Rattle.walk.specs.Lookup.{Pair, pair_of, lt_pair}
use Rattle.falling.specs.Cells.{slot_pair}
use Rattle.falling.proofs.slots.is_below.Goals as goal

pub returns : goal.returns
returns c =
    let x = c.args in
    c.less.ensures
    ∙ ap (λ (p : Pair). lt_pair p (pair_of c.pair_of-2.result)) c.pair_of.ensures
    ∙ ap (lt_pair (slot_pair x.levels.now x.times.now x.a)) c.pair_of-2.ensures
