-- `choose_next` meets its contract: the place is passed over, met as stained, or taken. Assumes nothing.
use Rattle.parting.proofs.Choosing.{next-passed, next-met, next-taken}
use Rattle.hash.specs.Bytes.{width_of}
use Rattle.parting.proofs.choose_next.Goals as goal

pub returns-then-not-has_both : goal.returns-then-not-has_both
returns-then-not-has_both c = let x = c.args in next-passed (width_of x.kind) x.store.now x.names.now x.marks.now x.levels.now x.slot c.mark_of-m.ensures c.has_both.ensures x.past c.if-not-has_both.true

pub returns-then-is_stained : goal.returns-then-is_stained
returns-then-is_stained c = let x = c.args in next-met (width_of x.kind) x.store.now x.names.now x.marks.now x.levels.now x.slot c.mark_of-m.ensures c.has_both.ensures c.if-not-has_both.false c.is_stained.ensures c.if-is_stained.true c.met.ensures

pub returns : goal.returns
returns c = let x = c.args in next-taken (width_of x.kind) x.store.now x.names.now x.marks.now x.levels.now x.slot c.mark_of-m.ensures c.has_both.ensures c.if-not-has_both.false c.is_stained.ensures c.if-is_stained.false c.sooner.ensures
