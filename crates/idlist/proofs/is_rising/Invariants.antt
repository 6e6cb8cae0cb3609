-- `idlist::is_rising` meets its contract. The loop's invariant: the first k ids rise, and prior is the head of the last of them. An id that is
-- not above the one before it breaks the list; where all are passed, they rise. The measure is the number of ids left. Assumes nothing.
use mathlib.Core.Path.{◌≡◌}
use Prim.Native.Nat.{◌+◌, ◌-◌, ◌*◌, ◌<◌}
use mathlib.Core.Bool.{true}
use Rattle.hash.specs.Bytes.{at, head_of}
use Rattle.idlist.specs.IdList.{rising}
use Rattle.idlist.proofs.is_rising.Given as goal

abbrev pub invariant-loop-k : goal.invariant-loop-k
invariant-loop-k l = (0 < l.k) × (rising (record { bytes = l.bytes; width = l.w; base = l.base; stride = l.stride }) l.k ≡ true) × (l.prior ≡ head_of (at l.bytes (l.base + l.stride * (l.k - 1)) l.w))

abbrev pub decreases-loop-k : goal.decreases-loop-k
decreases-loop-k l = l.n - l.k
