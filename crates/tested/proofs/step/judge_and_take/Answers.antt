-- `step::judge_and_take` meets its contract: the row beside the body says whether the file agrees; what was read ahead decides nothing. Assumes nothing.
use Rattle.hash.specs.Bytes.{width_of}
use Rattle.tested.specs.Passes.{held}
use Rattle.tested.proofs.Steps.{step-odd, step-taken}
use Rattle.tested.proofs.step.judge_and_take.Goals as goal

pub returns-in-Some : goal.returns-in-Some
returns-in-Some c = let x = c.args in step-taken (width_of x.kind) x.cache x.graph.now x.cap x.from (held x.names.now x.marks.now x.levels.now x.times.now x.line.now) x.n x.parents x.seconds.0 c.judge_in-judged.ensures c.in-Some.found.position c.in-Some.found.pair c.in-Some.is c.take.ensures

pub returns-in-None : goal.returns-in-None
returns-in-None c = let x = c.args in step-odd (width_of x.kind) x.cache x.graph.now x.cap x.from (held x.names.now x.marks.now x.levels.now x.times.now x.line.now) x.n x.parents x.seconds.0 c.judge_in-judged.ensures c.in-None.is
