-- `whole::test` meets its contract: in emptied memory the pass has room, and decides. Assumes nothing.
use Rattle.opening.specs.Checks.{input_of}
use Rattle.tested.proofs.AllTests.{test-told, test-roomy}
use Rattle.tested.proofs.whole.test.Goals as goal

pub returns : goal.returns
returns c = λ excluded s parents k. let x = c.args in test-told (input_of x.store.now x.graph.now x.tips.now x.hidden.now excluded s) parents x.names.now x.marks.now x.levels.now x.times.now x.line.now k (c.capacity-cap.ensures excluded s k) c.line_start-from.ensures c.clear.ensures c.clear_cells.ensures c.begin.ensures _ c.in-Some.is c.parse.ensures c.cache_of-cache.ensures c.test_from.ensures

pub returns-in_default : goal.returns-in_default
returns-in_default c = λ excluded s parents k. let x = c.args in test-roomy (input_of x.store.now x.graph.now x.tips.now x.hidden.now excluded s) parents x.names.now x.marks.now x.levels.now x.times.now x.line.now k (c.capacity-cap.ensures excluded s k) c.line_start-from.ensures c.clear.ensures c.clear_cells.ensures c.begin.ensures c.in_default.is
