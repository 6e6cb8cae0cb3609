-- `refill::read_slot` meets its contract: the seconds of the id in the slot are set down. Assumes nothing.
use mathlib.Core.Path.{◌∙◌, ap}
use Rattle.hashtable.specs.Table.{id_of}
use Rattle.walk.specs.Lookup.{world_of, seconds_for}
use Rattle.reading.proofs.Tips.{seconds-right}
use Rattle.refill.proofs.Rereading.{rereads_slot}
use Rattle.hash.specs.Bytes.{width_of}
use Rattle.refill.proofs.read_slot.Goals as goal

pub returns : goal.returns
returns c =
    let x = c.args in
    let id = c.id_of.ensures ∙ ap (id_of (width_of x.kind) x.names.now) c.wide.ensures in
    rereads_slot c.set_seconds.ensures (λ o g. seconds-right c.seconds_for-s.ensures o g ∙ ap (seconds_for (world_of (width_of x.kind) x.store.now g)) id)
