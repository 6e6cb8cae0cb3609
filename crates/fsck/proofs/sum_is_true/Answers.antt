-- `fsck::sum_is_true` meets its contract: the file before its last bytes, and those. Assumes nothing.
use mathlib.Core.Path.{◌∙◌}
use native.Mathlib.Omega.{arith}
use Prim.Native.Nat.{◌-◌}
use lib.ListN.{length, drop, length-drop}
use lib.Seq.{take_all}
use Rattle.fsck.proofs.Checksum.{sum_told}
use Rattle.fsck.proofs.sum_is_true.Goals as goal

pub returns : goal.returns
returns c = let x = c.args in
    let g = x.graph.now in
    let n = c.sum_start-n.result in
    c.is_digest.ensures
    ∙ sum_told x.kind g c.part.result.now _ n c.sum_start-n.ensures c.part.ensures (take_all (length g - n) (drop n g) (simp length-drop (omega arith)))
