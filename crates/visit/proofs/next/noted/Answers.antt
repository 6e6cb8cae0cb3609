-- `visit::next::noted` meets its contract: past the end of the buffer the list's default is 0. Assumes nothing.
use mathlib.Core.Path.{sym, ◌∙◌, ap}
use Prim.Native.Nat.{ℕ, ◌+◌, ◌%◌}
use native.Mathlib.Omega.{arith}
use lib.ListN.{get_or, get_or-eq_default}
use Rattle.visit.proofs.next.noted.Goals as goal

pub returns-then-i-levels : goal.returns-then-i-levels
returns-then-i-levels c = c.place_noted.ensures ∙ ap (λ (i : ℕ). (get_or c.args.levels.now i 0 + 4294967295) % 4294967296) c.wide-i.ensures

pub returns-else-i-levels : goal.returns-else-i-levels
returns-else-i-levels c = c.place_noted-else-i-levels.ensures ∙ ap (λ (n : ℕ). (n + 4294967295) % 4294967296) (sym (get_or-eq_default c.args.levels.now 0 (omega arith)))
