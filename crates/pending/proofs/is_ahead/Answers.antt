-- `is_ahead` meets its contract: it asks of the two slots' pairs which is less. Assumes nothing.
use mathlib.Core.Path.{ap, ◌∙◌}
use Rattle.walk.specs.Lookup.{Pair, pair_of, lt_pair}
use Rattle.pending.specs.Pending.{pair_at, ahead}
use Rattle.pending.proofs.is_ahead.Goals as goal

pub returns : goal.returns
unfolding ahead
returns c =
    let x = c.args in
    c.less.ensures
    ∙ ap (λ (p : Pair). lt_pair p (pair_of c.pair_of-2.result)) c.pair_of.ensures
    ∙ ap (lt_pair (pair_at x.levels.now x.times.now x.b)) c.pair_of-2.ensures
