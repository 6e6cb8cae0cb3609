-- `trace_checked` meets its contract: a cleared memo holds nothing false. Assumes nothing.
use mathlib.Core.Path.{refl}
use Rattle.walk.specs.Opening.{list_ids}
use Rattle.trace.proofs.Answering.{answer-unreadable, answer-played}
use Rattle.hash.specs.Bytes.{width_of}
use Rattle.trace.proofs.trace_checked.Goals as goal

-- src/lib.rt:112:9
pub returns-then-not-all_readable : goal.returns-then-not-all_readable
returns-then-not-all_readable c = let x = c.args in answer-unreadable c.clear.ensures c.all_readable.ensures (list_ids (width_of x.kind) x.list.now) c.if-not-all_readable.true refl

-- src/lib.rt:107:1
pub returns : goal.returns
returns c = let x = c.args in answer-played c.clear.ensures c.all_readable.ensures (list_ids (width_of x.kind) x.list.now) c.if-not-all_readable.false c.clear-2.ensures c.play.ensures
