-- `next::is_whole` meets its contract: a closed record is not whole, and an open one is so where there is room for its places. Assumes nothing.
use mathlib.Core.Path.{refl, ap}
use mathlib.Core.Bool.{not}
use Rattle.hash.proofs.Tests.{clash}
use Rattle.traverse.proofs.next.is_whole.Goals as goal

pub returns-then-not-record : goal.returns-then-not-record
returns-then-not-record c = record { shut = λ e. refl; alive = λ e i k h. clash c.if-not-record.true (ap not e) }

pub returns : goal.returns
returns c = record { shut = λ e. clash (ap not e) c.if-not-record.false; alive = λ e i k h. c.has_room.ensures i k h }
