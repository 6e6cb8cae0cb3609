-- `reading::body::put_parents` meets its contract: the ids so far are the header's first ones, and no parent line stands after the last. Assumes nothing.
use borrow.Author.Rules.{rules}
use mathlib.Core.Path.{◌≡◌, ◌∙◌}
use Prim.Native.Nat.{◌-◌, ◌≤◌}
use native.Mathlib.Omega.{arith}
use Rattle.hash.specs.Bytes.{width_of}
use Rattle.hash.proofs.Widths.{width-most}
use Rattle.object.proofs.Lines.{turned-yes, turned-no}
use Rattle.reading.proofs.Bodies.{Putting, putting_none, putting-next, putting-stop, putting_full, at_place}
use mathlib.Core.Bool.{not}
use mathlib.Core.Path.{ap}
use Rattle.reading.proofs.body.put_parents.Goals as goal

pub loop-k-init : goal.loop-k-init
loop-k-init c = (search rules, putting_none _ _ _)

pub shape_of-out-then-not-put_parent : goal.shape_of-out-then-not-put_parent
shape_of-out-then-not-put_parent c = c.put_parent.auto.out ∙ c.loop-k.invariant.1.same_length

pub returns-then-not-put_parent : goal.returns-then-not-put_parent
returns-then-not-put_parent c = putting-stop (width-most c.args.kind) c.loop-k.invariant.1 (at_place (width_of c.args.kind) c.args.body.now c.loop-k.k c.parents_place-place.ensures) c.args.first (omega (arith, c.loop-k-test.true, c.most_read-most.ensures)) (turned-yes c.put_parent.ensures.0 (ap not c.if-not-put_parent.true)) c.put_parent.ensures.1

pub loop-k-preserved : goal.loop-k-preserved
loop-k-preserved c = (omega (arith, c.loop-k-test.true), putting-next (width-most c.args.kind) c.loop-k.invariant.1 (at_place (width_of c.args.kind) c.args.body.now c.loop-k.k c.parents_place-place.ensures) c.args.first (omega (arith, c.loop-k-test.true, c.most_read-most.ensures)) (turned-no c.put_parent.ensures.0 (ap not c.if-not-put_parent.false)) c.put_parent.ensures.1)

pub shape_of-out : goal.shape_of-out
shape_of-out c = c.loop-k.invariant.1.same_length

pub returns : goal.returns
returns c = let e : c.most_read-most.result ≡ c.loop-k.k = omega (arith, c.loop-k.invariant.0, c.loop-k-test.false) in rw e (putting_full c.args.first c.loop-k.invariant.1 (omega (arith, c.loop-k.invariant.0, c.loop-k-test.false, c.most_read-most.ensures)))
