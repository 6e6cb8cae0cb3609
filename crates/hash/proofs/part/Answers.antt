-- `hash::part` meets its contract: past the end nothing is left, near it what is left, else the n bytes. Assumes nothing.
use Prim.Native.Nat.{◌+◌, ◌-◌}
use mathlib.Core.Path.{◌≡◌, sym, ◌∙◌}
use native.Mathlib.Omega.{arith}
use lib.ListN.{length, drop, length-drop}
use lib.Seq.{take_all}
use Rattle.hash.specs.Bytes.{at}
use Rattle.hash.proofs.Bytes.{at-past, at_rest}
use borrow.Author.Rules.{rules}
use Rattle.hash.proofs.part.Goals as goal

pub returns-then-s-i : goal.returns-then-s-i
returns-then-s-i c = let x = c.args in sym (at-past x.s.now x.i x.n (search rules))

pub returns-then-s-i-2 : goal.returns-then-s-i-2
returns-then-s-i-2 c = let x = c.args in take_all (length x.s.now - x.i) (drop x.i x.s.now) (simp length-drop (omega arith)) ∙ sym (at_rest x.s.now x.i x.n (omega arith))

pub returns : goal.returns
unfolding at
returns c = let x = c.args in let e : x.i + x.n - x.i ≡ x.n = omega arith in rw e
