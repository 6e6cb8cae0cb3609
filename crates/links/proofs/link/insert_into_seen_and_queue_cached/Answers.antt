-- `links::link::insert_into_seen_and_queue_cached` meets its contract: the parent is seen, and enters where it is new; its seconds are read there, and do not count elsewhere.
-- Assumes nothing.
use Rattle.commitgraph.specs.Graph.{seconds_in}
use Rattle.links.proofs.Links.{sees_as, visits, visits-known}
use Rattle.hash.specs.Bytes.{width_of}
use Rattle.links.proofs.link.insert_into_seen_and_queue_cached.Goals as goal

pub returns-in_default : goal.returns-in_default
returns-in_default c = let x = c.args in visits-known (sees_as c.with_waiting.ensures c.in_default.ensures) (seconds_in (width_of x.settings.kind) x.graph.now x.l x.parent)

pub shape_of-names : goal.shape_of-names
shape_of-names c = c.see.auto.names

pub returns : goal.returns
returns c = let x = c.args in
    visits (sees_as c.with_waiting.ensures c.in-Some.ensures) c.new_row_seconds-s.result.0 (seconds_in (width_of x.settings.kind) x.graph.now x.l x.parent) c.new_row_seconds-s.ensures (c.insert_into_queue.ensures x.r)
