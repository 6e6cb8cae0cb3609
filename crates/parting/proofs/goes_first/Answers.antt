-- `goes_first` meets its contract: seconds are set against seconds, then ids against ids. Assumes nothing.
use Rattle.std.proofs.Common.{◌∙◌}
use Rattle.date.proofs.Orders.{less}
use Rattle.parting.proofs.Choosing.{first_later, first-not, first-by-id}
use Rattle.parting.proofs.goes_first.Goals as goal

pub returns-then-lt : goal.returns-then-lt
returns-then-lt c = first_later c.args.names.now c.args.x c.args.y c.id_of-a.ensures c.id_of-b.ensures c.seconds_for-s.ensures c.seconds_for-t.ensures (c.lt.ensures ∙ less c.seconds_for-t.result.0 c.seconds_for-s.result.0) c.if-lt.true

pub returns-then-lt-2 : goal.returns-then-lt-2
returns-then-lt-2 c = first-not c.args.names.now c.args.x c.args.y c.id_of-a.ensures c.id_of-b.ensures c.seconds_for-s.ensures c.seconds_for-t.ensures (c.lt.ensures ∙ less c.seconds_for-t.result.0 c.seconds_for-s.result.0) c.if-lt.false (c.lt-2.ensures ∙ less c.seconds_for-s.result.0 c.seconds_for-t.result.0) c.if-lt-2.true

pub returns : goal.returns
returns c = first-by-id c.args.names.now c.args.x c.args.y c.id_of-a.ensures c.id_of-b.ensures c.seconds_for-s.ensures c.seconds_for-t.ensures (c.lt.ensures ∙ less c.seconds_for-t.result.0 c.seconds_for-s.result.0) c.if-lt.false (c.lt-2.ensures ∙ less c.seconds_for-s.result.0 c.seconds_for-t.result.0) c.if-lt-2.false c.is_smaller.ensures
