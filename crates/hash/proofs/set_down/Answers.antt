-- `hash::set_down` meets its contract: where the bytes do not fit nothing is done; an array that the bytes are copied to is then those
-- bytes. Assumes nothing.
use mathlib.Core.Path.{sym, ◌∙◌, ap}
use native.Mathlib.Omega.{arith}
use lib.ListN.{replicate}
use Rattle.hash.specs.Bytes.{set_down}
use Rattle.hash.proofs.Bytes.{set_down-not, set_whole}
use Rattle.hash.proofs.set_down.Goals as goal

pub returns-then-out-i : goal.returns-then-out-i
returns-then-out-i c = let x = c.args in sym (set_down-not x.out.now x.i x.x.now (omega arith))

pub returns-then-out-i-2 : goal.returns-then-out-i-2
returns-then-out-i-2 c = let x = c.args in sym (set_down-not x.out.now x.i x.x.now (omega arith))

pub returns-then-x-eq20 : goal.returns-then-x-eq20
returns-then-x-eq20 c = let x = c.args in
    c.copy-then-x-eq20.ensures
    ∙ ap (set_down x.out.now x.i) (c.copy.ensures ∙ set_whole (replicate 20 0) x.x.now (sym c.if-x-eq20.true))

pub returns-then-x-eq32 : goal.returns-then-x-eq32
returns-then-x-eq32 c = let x = c.args in
    c.copy-then-x-eq32-2.ensures
    ∙ ap (set_down x.out.now x.i) (c.copy-then-x-eq32.ensures ∙ set_whole (replicate 32 0) x.x.now (sym c.if-x-eq32.true))
