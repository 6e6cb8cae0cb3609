-- `put::hex_id` meets its contract: after i turns the digits of the first i bytes are put down. Assumes nothing.
use Prim.Native.Nat.{◌-◌, ◌≤◌}
use lib.ListN.{length, take}
use Rattle.swatch.specs.Text.{hex}
use Rattle.swatch.specs.Contract.{Puts}
use Rattle.swatch.proofs.put.hex_id.Given as goal

abbrev pub invariant-loop-i : goal.invariant-loop-i
invariant-loop-i l = (l.i ≤ length l.id) × Puts l.initial.out l.at (hex (take l.i l.id)) l.out l.next

abbrev pub decreases-loop-i : goal.decreases-loop-i
decreases-loop-i l = length l.id - l.i
