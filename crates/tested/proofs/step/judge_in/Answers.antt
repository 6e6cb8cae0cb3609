-- `step::judge_in` meets its contract: the commit that is judged is that of the slot. Assumes nothing.
use mathlib.Core.Path.{subst}
use Rattle.hash.specs.Bytes.{Id, width_of}
use Rattle.judging.specs.Judge.{Judges}
use Rattle.tested.proofs.step.judge_in.Goals as goal

pub returns : goal.returns
returns c = let x = c.args in subst (λ (z : Id). Judges (width_of x.kind) x.cache x.graph.now x.store.now z x.body.now x.n x.seconds.0 c.judge.result) c.id_of-id.ensures c.judge.ensures
