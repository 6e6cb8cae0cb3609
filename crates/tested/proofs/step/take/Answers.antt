-- `step::take` meets its contract: the parents noted, the pair set down, their cells lowered. Assumes nothing.
use Rattle.object.specs.Header.{header}
use Rattle.walk.specs.Lookup.{pair_of}
use Rattle.tested.proofs.Taken.{take_count, take_none}
use Rattle.hash.specs.Bytes.{width_of}
use Rattle.tested.proofs.step.take.Goals as goal

pub returns : goal.returns
returns c = let x = c.args in take_count (width_of x.kind) x.cap x.from x.names.now x.marks.now x.levels.now x.times.now x.line.now x.n x.slot (pair_of x.pair) (header (width_of x.kind) x.body.now) x.parents c.note_parents-grown.ensures c.set_pair.ensures.0 c.set_pair.ensures.1 _ c.in-Some.is c.lower_parents.ensures

pub returns-in_default : goal.returns-in_default
returns-in_default c = let x = c.args in take_none (width_of x.kind) x.cap x.from x.names.now x.marks.now x.levels.now x.times.now x.line.now x.n x.slot (pair_of x.pair) (header (width_of x.kind) x.body.now) x.parents c.note_parents-grown.ensures c.in_default.is
