-- `table::around` meets its contract: the two cases are those of the wrap. Assumes nothing.
use mathlib.Core.Path.{◌≡◌, sym, ◌∙◌}
use Prim.Native.Nat.{◌+◌, ◌-◌, ◌<◌, ◌≤◌}
use native.Mathlib.Omega.{arith}
use Rattle.hashtable.proofs.TableProbe.{wrap-low, wrap-high}
use borrow.Author.Rules.{rules}
use Rattle.hashtable.proofs.table.around.Goals as goal

pub returns-then-i-cap : goal.returns-then-i-cap
returns-then-i-cap c = let x = c.args in
    let l : x.h + x.i < x.cap = omega arith in
    (sym (wrap-low x.cap (x.h + x.i) l), l)

pub returns-else-i-cap : goal.returns-else-i-cap
returns-else-i-cap c = let x = c.args in
    let l : x.cap ≤ x.h + x.i = omega arith in
    let e : x.i - (x.cap - x.h) ≡ x.h + x.i - x.cap = omega arith in
    (e ∙ sym (wrap-high x.cap (x.h + x.i) l), omega arith)
