-- `opening::capacity` meets its contract: the sum is P, and fits, as N is a 32-bit number. Assumes nothing.
use native.Mathlib.Omega.{arith}
use lib.ListN.{length}
use Rattle.walk.specs.Opening.{P}
use Rattle.opening.proofs.Input.{ids-few, lines_few}
use borrow.Author.Rules.{rules}
use Rattle.opening.proofs.capacity.Goals as goal

pub overflow_add-result : goal.overflow_add-result
overflow_add-result c = let x = c.args in
    omega (arith, c.ids_in.ensures, c.ids_in-2.ensures, ids-few x.kind (length x.tips.now), ids-few x.kind (length x.hidden.now))

pub overflow_add-result-2 : goal.overflow_add-result-2
overflow_add-result-2 c = let x = c.args in
    omega (arith, c.ids_in.ensures, c.ids_in-2.ensures, c.lines_in.ensures, ids-few x.kind (length x.tips.now), ids-few x.kind (length x.hidden.now), lines_few x.kind (length x.store.now))

pub overflow_add-result-3 : goal.overflow_add-result-3
overflow_add-result-3 c = let x = c.args in
    omega (arith, c.ids_in.ensures, c.ids_in-2.ensures, c.lines_in.ensures, c.count.ensures.1, ids-few x.kind (length x.tips.now), ids-few x.kind (length x.hidden.now), lines_few x.kind (length x.store.now))

pub returns : goal.returns
unfolding P
returns c = λ excluded s e. rw e (omega (arith, c.ids_in.ensures, c.ids_in-2.ensures, c.lines_in.ensures, c.count.ensures.0))
