-- `judge` meets its contract: with a file by its row, without one by the body that was read. Assumes nothing.
use mathlib.Core.Path.{refl}
use Rattle.judging.proofs.Judging.{judge_bare}
use Rattle.judging.proofs.judge.Goals as goal

pub returns-in-None : goal.returns-in-None
returns-in-None c = let x = c.args in judge_bare x.graph.now x.store.now x.id.now x.body.now x.n x.seconds.0 _ _ c.in-None.is refl refl
