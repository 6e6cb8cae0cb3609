-- Which side of cap the sum lies on is what the code tests.
use mathlib.Core.Path.{◌≡◌, sym, ◌∙◌}
use Prim.Native.Nat.{◌+◌, ◌-◌, ◌<◌, ◌≤◌}
use native.Mathlib.Omega.{arith}
use Rattle.revwalk.proofs.QueueRing.{wrap-low, wrap-high}
use borrow.Author.Rules.{rules}
use Rattle.revwalk.proofs.queue.ring.place.Goals as goal

pub returns-then-i-rest : goal.returns-then-i-rest
returns-then-i-rest c = let x = c.args in let h : x.head + x.i < x.cap = omega arith in (sym (wrap-low x.cap (x.head + x.i) h), h)

pub returns-else-i-rest : goal.returns-else-i-rest
returns-else-i-rest c = let x = c.args in let h : x.cap ≤ x.head + x.i = omega arith in let e : x.i - (x.cap - x.head) ≡ x.head + x.i - x.cap = omega arith in (e ∙ sym (wrap-high x.cap (x.head + x.i) h), omega arith)
