-- `cells::clear_cells` meets its contract: after k turns the first k numbers are 0 and the others as they were. Assumes nothing.
use mathlib.Core.Path.{refl, ◌∙◌, ap}
use Prim.Native.Nat.{ℕ}
use native.Mathlib.Omega.{arith}
use native.Mathlib.Numerals.{add-one}
use lib.ListN.{length-set}
use Rattle.hashtable.specs.Table.{cleared}
use Rattle.hashtable.proofs.TableClear.{cleared_more, cleared-all}
use borrow.Author.Rules.{rules}
use Rattle.falling.proofs.cells.clear_cells.Goals as goal

pub loop-k-init : goal.loop-k-init
unfolding cleared
loop-k-init c = (search rules, refl, refl)

pub shape_of-line-then-n-k : goal.shape_of-line-then-n-k
shape_of-line-then-n-k c = c.loop-k.invariant.1

pub returns-then-n-k : goal.returns-then-n-k
returns-then-n-k c = c.loop-k.invariant.2 ∙ ap (λ (z : ℕ). cleared z c.args.line.now) (omega arith)

pub loop-k-preserved : goal.loop-k-preserved
loop-k-preserved c = let o = c.args.line.now in (search rules, simp length-set c.loop-k.invariant.1, rw (c.loop-k.invariant.2, add-one) (cleared_more c.loop-k.k o (omega arith)))

pub shape_of-line : goal.shape_of-line
shape_of-line c = c.loop-k.invariant.1

pub returns : goal.returns
returns c = c.loop-k.invariant.2 ∙ cleared-all c.loop-k.k c.args.n c.args.line.now (omega arith) (omega arith)
