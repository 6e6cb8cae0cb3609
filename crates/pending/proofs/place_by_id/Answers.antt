-- `place_by_id` meets its contract: the slots in front of place i have ids below the new one's, so it goes in among the rest. Assumes nothing.
use mathlib.Core.Path.{sym, ◌∙◌}
use Rattle.pending.specs.Pending.{not_above}
use Rattle.pending.proofs.Inserts.{passed_none, passed-more, placed-here, placed-end}
use Rattle.hash.specs.Bytes.{width_of}
use Rattle.pending.proofs.place_by_id.Goals as goal

pub loop-i-init : goal.loop-i-init
loop-i-init c = passed_none (not_above (width_of c.args.kind) c.args.names.now) c.args.line.now c.args.from c.args.to c.args.slot c.requires.0

pub returns-then-not_above : goal.returns-then-not_above
returns-then-not_above c = placed-here c.loop-i.invariant c.requires.1 c.loop-i-test.true (sym c.not_above.ensures ∙ c.if-not_above.true)

pub loop-i-preserved : goal.loop-i-preserved
loop-i-preserved c = passed-more c.loop-i.invariant c.requires.1 c.loop-i-test.true (sym c.not_above.ensures ∙ c.if-not_above.false)

pub returns : goal.returns
returns c = placed-end c.loop-i.invariant c.requires.1 c.loop-i-test.false
