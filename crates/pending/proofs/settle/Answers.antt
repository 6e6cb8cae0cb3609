-- `settle` meets its contract: the merged list stands where the older run does, and the younger run is empty. Assumes nothing.
use Rattle.pending.proofs.Pushing.{settles}
use Rattle.pending.proofs.settle.Goals as goal

pub returns : goal.returns
returns c =
    let x = c.args in
    settles x.levels.now x.times.now x.p x.line.now c.requires.right c.requires c.merge.new.line c.merge.ensures c.young_place-place.result c.young_place-place.ensures.0 c.young_place-place.ensures.1
