-- `any_lacking` meets its contract: a slot of the younger run lacks STALE, or one of the older run does. Assumes nothing.
use Rattle.pending.specs.Pending.{stale_at, younger_in, older_in}
use Rattle.pending.proofs.Merges.{fresh-left, fresh-right}
use Rattle.pending.proofs.any_lacking.Goals as goal

pub returns-then-lacking_in : goal.returns-then-lacking_in
returns-then-lacking_in c = let x = c.args in
    fresh-left (stale_at x.marks.now) (younger_in x.p x.line.now) (older_in x.p x.line.now) c.lacking_in.result c.lacking_in.ensures c.if-lacking_in.true

pub returns : goal.returns
returns c = let x = c.args in
    fresh-right (stale_at x.marks.now) (younger_in x.p x.line.now) (older_in x.p x.line.now) c.lacking_in.result c.lacking_in.ensures c.lacking_in-2.result c.lacking_in-2.ensures c.if-lacking_in.false
