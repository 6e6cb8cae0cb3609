-- `hash::head` meets its contract: of the n bytes at a place there are eight where n is eight and the slice has as many there. Assumes nothing.
use mathlib.Core.Path.{◌∙◌}
use native.Mathlib.Omega.{arith}
use Rattle.hash.proofs.Bytes.{head_few, head-past, head_at}
use Rattle.hash.proofs.head.Goals as goal

pub returns-then-n-lt8 : goal.returns-then-n-lt8
returns-then-n-lt8 c = let x = c.args in head_few x.s.now x.i x.n c.if-n-lt8.true

pub returns-then-s-lt8 : goal.returns-then-s-lt8
returns-then-s-lt8 c = let x = c.args in head-past x.s.now x.i x.n (omega arith)

pub returns-then-s-i : goal.returns-then-s-i
returns-then-s-i c = let x = c.args in head-past x.s.now x.i x.n (omega arith)

pub returns : goal.returns
returns c = let x = c.args in c.long_at.ensures ∙ head_at x.s.now x.i x.n (omega arith) (omega arith)
