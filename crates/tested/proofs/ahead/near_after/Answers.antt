-- `ahead::near_after` meets its contract: the two tests tell whether the place is one of the line. Assumes nothing.
use mathlib.Core.Path.{sym, ap, ◌∙◌}
use mathlib.Core.Bool.{Bool, cond}
use Prim.Native.Nat.{ℕ, ◌+◌, ◌*◌}
use native.Mathlib.Omega.{arith}
use lib.ListN.{get_or}
use borrow.Author.Tests.{lt-ltb, le-ltb}
use Rattle.tested.proofs.ahead.near_after.Goals as goal

pub returns-then-n-k : goal.returns-then-n-k
returns-then-n-k c = let x = c.args in ap (λ (t : Bool). cond t (get_or x.line.now (2 * get_or x.line.now (x.from + (x.k + x.d)) 0 + 1) 0) x.other) (sym (le-ltb (x.k + x.d) x.n (omega arith)))

pub returns-then-n-k-2 : goal.returns-then-n-k-2
returns-then-n-k-2 c = let x = c.args in ap (λ (t : Bool). cond t (get_or x.line.now (2 * get_or x.line.now (x.from + (x.k + x.d)) 0 + 1) 0) x.other) (sym (le-ltb (x.k + x.d) x.n (omega arith)))

pub returns : goal.returns
returns c = let x = c.args in c.hint_of.ensures ∙ ap (λ (s : ℕ). get_or x.line.now (2 * s + 1) 0) c.slot_after.ensures ∙ ap (λ (t : Bool). cond t (get_or x.line.now (2 * get_or x.line.now (x.from + (x.k + x.d)) 0 + 1) 0) x.other) (sym (lt-ltb (x.k + x.d) x.n (omega arith)))
