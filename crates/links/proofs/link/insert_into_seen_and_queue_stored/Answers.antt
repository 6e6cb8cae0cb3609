-- `links::link::insert_into_seen_and_queue_stored` meets its contract: the same with the seconds in the store, which are read where the parent is new and do not count elsewhere. Assumes nothing.
use Rattle.walk.specs.Lookup.{world_of, seconds_for}
use Rattle.reading.proofs.Tips.{seconds-right}
use Rattle.links.proofs.Links.{sees_as, visits, visits-known}
use Rattle.hash.specs.Bytes.{width_of}
use Rattle.links.proofs.link.insert_into_seen_and_queue_stored.Goals as goal

pub returns-in_default : goal.returns-in_default
returns-in_default c = let x = c.args in record { right = λ ok g. visits-known (sees_as c.with_waiting.ensures c.in_default.ensures) (seconds_for (world_of (width_of x.settings.kind) x.store.now g) x.id.now) }

pub returns : goal.returns
returns c = let x = c.args in
    record { right = λ ok g. visits (sees_as c.with_waiting.ensures c.in-Some.ensures) c.new_seconds-s.result.0 (seconds_for (world_of (width_of x.settings.kind) x.store.now g) x.id.now) (λ j. seconds-right (c.new_seconds-s.ensures j) ok g) (c.insert_into_queue.ensures x.r) }
