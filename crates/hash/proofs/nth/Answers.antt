-- `hash::nth` meets its contract: past every place of 64 bits no id stands, else its place is a number. Assumes nothing.
use mathlib.Core.Path.{sym, ◌∙◌}
use Prim.Native.Nat.{◌*◌}
use native.Mathlib.Omega.{arith}
use borrow.Author.Tests.{leb-true, leb-false}
use Rattle.hash.specs.Bytes.{width_of}
use Rattle.hash.proofs.Bytes.{at-past}
use Rattle.hash.proofs.nth.Goals as goal

pub returns-then-past_all : goal.returns-then-past_all
returns-then-past_all c = let x = c.args in sym (at-past x.s.now (width_of x.kind * x.k) (width_of x.kind) (omega (arith, leb-true 18446744073709551616 (width_of x.kind * x.k) (sym c.past_all.ensures ∙ c.if-past_all.true))))

pub overflow_mul-width : goal.overflow_mul-width
overflow_mul-width c = let x = c.args in rw c.width.ensures.0 (omega (arith, leb-false 18446744073709551616 (width_of x.kind * x.k) (sym c.past_all.ensures ∙ c.if-past_all.false)))

pub returns : goal.returns
returns c = rw c.width.ensures.0 at c.id_at.ensures
