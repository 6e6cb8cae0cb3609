-- `odb::part_at` meets its contract. The two tests are those of the definition. Assumes nothing.
use mathlib.Core.Path.{sym}
use Rattle.odb.proofs.Lookup.{part_at-yes, part_at-no, part-past, part_turned}
use Rattle.odb.proofs.part_at.Goals as goal

pub returns-then-end-store : goal.returns-then-end-store
returns-then-end-store c = sym (part_at-yes _ _ _ c.if-start-end.true c.if-end-store.true)

pub returns-else-end-store : goal.returns-else-end-store
returns-else-end-store c = part_at-no _ _ _ (part-past _ _ _ c.if-start-end.true c.if-end-store.false)

pub returns-else-start-end : goal.returns-else-start-end
returns-else-start-end c = part_at-no _ _ _ (part_turned _ _ _ c.if-start-end.false)
