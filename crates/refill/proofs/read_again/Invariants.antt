-- `refill::read_again` meets its contract: the first places of the queue have the seconds of their ids. Assumes nothing.
use Prim.Native.Nat.{◌-◌}
use Rattle.refill.proofs.Rereading.{Rereading}
use Rattle.hash.specs.Bytes.{width_of}
use Rattle.refill.proofs.read_again.Given as goal

abbrev pub invariant-loop-i : goal.invariant-loop-i
invariant-loop-i l = Rereading (width_of l.kind) l.q l.store l.names l.line l.n l.initial.times l.times l.i

abbrev pub decreases-loop-i : goal.decreases-loop-i
decreases-loop-i l = l.n - l.i
