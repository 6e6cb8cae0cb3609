-- `reading::body::put_parents` meets its contract: the ids so far are the header's first ones, and no parent line stands after the last. Assumes nothing.
use borrow.Author.Rules.{rules}
use mathlib.Core.Path.{◌∙◌}
use Prim.Native.Nat.{◌-◌, ◌≤◌}
use native.Mathlib.Omega.{arith}
use Rattle.hash.specs.Bytes.{width_of}
use Rattle.hash.proofs.Widths.{width-most}
use Rattle.object.proofs.Lines.{turned-yes, turned-no}
use Rattle.reading.proofs.Bodies.{Putting, putting_none, putting-next, putting-stop, putting_full, few-read, at_place}
use Rattle.reading.proofs.body.put_parents.Given as goal

abbrev pub invariant-loop-k : goal.invariant-loop-k
invariant-loop-k l = (l.k ≤ l.most) × Putting (width_of l.kind) l.body l.initial.out l.out l.k

abbrev pub decreases-loop-k : goal.decreases-loop-k
decreases-loop-k l = l.most - l.k
