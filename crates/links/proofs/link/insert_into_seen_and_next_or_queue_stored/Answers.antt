-- `links::link::insert_into_seen_and_next_or_queue_stored` meets its contract: the parent is seen, and waits where it is new and its link admitted; its seconds are those in
-- the store in a queue by time, and do not count elsewhere. Assumes nothing.
use lib.IntN.{pos}
use mathlib.Core.Path.{refl}
use Rattle.hash.specs.Bytes.{width_of}
use Rattle.hash.proofs.Tests.{clash}
use Rattle.walk.specs.Lookup.{world_of, seconds_for}
use Rattle.reading.proofs.Tips.{seconds-right}
use Rattle.links.proofs.Links.{sees_as, visits, visits-known, enters-admitted, enters-turned}
use Rattle.links.proofs.link.insert_into_seen_and_next_or_queue_stored.Goals as goal

pub returns-in_default : goal.returns-in_default
returns-in_default c = let x = c.args in
    record { right = λ ok g. visits-known (sees_as c.with_waiting.ensures c.in_default.ensures) (seconds_for (world_of (width_of x.settings.kind) x.store.now g) x.id.now) }

pub returns-then-admits : goal.returns-then-admits
returns-then-admits c = let x = c.args in
    record {
      right = λ ok g.
          visits (sees_as c.with_waiting.ensures c.in-Some.ensures) c.new_seconds-s.result.0 (seconds_for (world_of (width_of x.settings.kind) x.store.now g) x.id.now) (λ j. seconds-right (c.new_seconds-s.ensures refl) ok g)
          (enters-admitted c.admits.ensures c.if-admits.true (c.lengthen_heap.ensures.own c.if-q.true x.r));
    }

pub returns-then-q : goal.returns-then-q
returns-then-q c = let x = c.args in
    record { right = λ ok g. visits (sees_as c.with_waiting.ensures c.in-Some.ensures) c.new_seconds-s.result.0 (seconds_for (world_of (width_of x.settings.kind) x.store.now g) x.id.now) (λ j. seconds-right (c.new_seconds-s.ensures refl) ok g) (enters-turned c.admits.ensures c.if-admits.false) }

pub returns-then-admits-2 : goal.returns-then-admits-2
returns-then-admits-2 c = let x = c.args in
    record {
      right = λ ok g.
          visits (sees_as c.with_waiting.ensures c.in-Some.ensures) (pos 0) (seconds_for (world_of (width_of x.settings.kind) x.store.now g) x.id.now) (λ j. clash j c.if-q.false)
          (enters-admitted c.admits-2.ensures c.if-admits-2.true (c.lengthen_ring.ensures.own c.if-q.false x.r (pos 0)));
    }

pub returns : goal.returns
returns c = let x = c.args in
    record { right = λ ok g. visits (sees_as c.with_waiting.ensures c.in-Some.ensures) (pos 0) (seconds_for (world_of (width_of x.settings.kind) x.store.now g) x.id.now) (λ j. clash j c.if-q.false) (enters-turned c.admits-2.ensures c.if-admits-2.false) }
