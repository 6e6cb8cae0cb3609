-- `links::link::insert_into_seen_and_next_or_queue` meets its contract: the parent is seen, and enters where it is new; its seconds are read in a queue by time, and do not
-- count elsewhere. Assumes nothing.
use lib.IntN.{pos}
use mathlib.Core.Path.{refl}
use Rattle.hash.specs.Bytes.{width_of}
use Rattle.hash.proofs.Tests.{clash}
use Rattle.commitgraph.specs.Graph.{seconds_in}
use Rattle.links.proofs.Links.{sees_as, visits, visits-known}
use Rattle.links.proofs.link.insert_into_seen_and_next_or_queue.Goals as goal

pub returns-in_default : goal.returns-in_default
returns-in_default c = let x = c.args in
    visits-known (sees_as c.with_waiting.ensures c.in_default.ensures) (seconds_in (width_of x.settings.kind) x.graph.now x.l x.parent)

pub insert_into_heap-requires : goal.insert_into_heap-requires
insert_into_heap-requires c = c.if-q.true

pub returns-then-q : goal.returns-then-q
returns-then-q c = let x = c.args in
    visits (sees_as c.with_waiting.ensures c.in-Some.ensures) c.new_row_seconds-s.result.0 (seconds_in (width_of x.settings.kind) x.graph.now x.l x.parent)
    (λ t. c.new_row_seconds-s.ensures refl) (c.insert_into_heap.ensures x.r)

pub insert_into_ring-requires : goal.insert_into_ring-requires
insert_into_ring-requires c = c.if-q.false

pub returns : goal.returns
returns c = let x = c.args in
    visits (sees_as c.with_waiting.ensures c.in-Some.ensures) (pos 0) (seconds_in (width_of x.settings.kind) x.graph.now x.l x.parent)
    (λ t. clash t c.if-q.false) (c.insert_into_ring.ensures x.r)
