-- `inplace::next_by_topology_or_commit_date` meets its contract: each test that sends it away comes before anything is altered, and what it does then is the walk's
-- next call. Assumes nothing.
use native.Mathlib.Omega.{arith}
use Rattle.inplace.proofs.InPlace.{empty, not_made}
use Rattle.inplace.proofs.next_by_topology_or_commit_date.Goals as goal

pub returns-then-not-can_go : goal.returns-then-not-can_go
returns-then-not-can_go c = not_made _ _ _ _ _ _ _ _ _

pub take_stored-requires : goal.take_stored-requires
take_stored-requires c = (c.can_go.ensures (c.if-not-can_go.false), c.record_in-record.ensures)

pub returns-then-graph-eq0 : goal.returns-then-graph-eq0
returns-then-graph-eq0 c = rw (empty c.args.graph.now c.if-graph-eq0.true) c.take_stored.ensures

pub take_first-requires : goal.take_first-requires
take_first-requires c = (omega (arith, c.if-graph-eq0.false), c.can_go.ensures (c.if-not-can_go.false), c.record_in-record.ensures)

pub returns : goal.returns
returns c = c.take_first.ensures c.args.store.now
