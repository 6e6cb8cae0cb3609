-- `object::narrow_id` meets its contract: each byte of an id is the slice's at that place, and the zeros after them are left. Assumes nothing.
use mathlib.Core.Path.{refl}
use Prim.Native.Nat.{◌-◌, ◌≤◌}
use borrow.Author.Rules.{rules}
use native.Mathlib.Omega.{arith}
use Rattle.hash.specs.Bytes.{id_bytes}
use Rattle.object.proofs.IdBytes.{Copying, copying_none, copying_more, copying_ended}
use Rattle.object.proofs.id.narrow_id.Goals as goal

pub loop-i-init : goal.loop-i-init
loop-i-init c = (search rules, copying_none _)

pub loop-i-preserved : goal.loop-i-preserved
loop-i-preserved c = (search rules, copying_more c.loop-i.invariant.1 (search rules) refl)

pub returns : goal.returns
returns c = copying_ended c.loop-i.invariant.1 (omega (arith, c.width-w.ensures.0))
