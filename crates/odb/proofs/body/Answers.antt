-- `odb::body` meets its contract. The two tests are those of the definition; a part is taken where both hold. Assumes nothing.
use Rattle.odb.specs.Lookup.{part_of}
use Rattle.odb.proofs.Lookup.{part_of-yes, part_of-no, part-past, part_turned}
use borrow.Author.Rules.{rules}
use Rattle.odb.proofs.body.Goals as goal

pub returns-then-end-store : goal.returns-then-end-store
returns-then-end-store c = rw c.in-Body.is (part_of-yes _ _ _ c.if-start-end.true c.if-end-store.true)

pub returns-else-end-store : goal.returns-else-end-store
returns-else-end-store c = rw c.in-Body.is (part_of-no _ _ _ (part-past _ _ _ c.if-start-end.true c.if-end-store.false))

pub returns-else-start-end : goal.returns-else-start-end
returns-else-start-end c = rw c.in-Body.is (part_of-no _ _ _ (part_turned _ _ _ c.if-start-end.false))

pub returns-in-Absent : goal.returns-in-Absent
unfolding part_of
returns-in-Absent c = rw c.in-Absent.is
