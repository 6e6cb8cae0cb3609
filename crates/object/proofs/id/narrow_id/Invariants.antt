-- `object::narrow_id` meets its contract: each byte of an id is the slice's at that place, and the zeros after them are left. Assumes nothing.
use mathlib.Core.Path.{refl}
use Prim.Native.Nat.{◌-◌, ◌≤◌}
use borrow.Author.Rules.{rules}
use native.Mathlib.Omega.{arith}
use Rattle.hash.specs.Bytes.{id_bytes}
use Rattle.object.proofs.IdBytes.{Copying, copying_none, copying_more, copying_ended}
use Rattle.object.proofs.id.narrow_id.Given as goal

abbrev pub invariant-loop-i : goal.invariant-loop-i
invariant-loop-i l = (l.i ≤ id_bytes) × Copying l.x l.bytes l.i

abbrev pub decreases-loop-i : goal.decreases-loop-i
decreases-loop-i l = l.w - l.i
