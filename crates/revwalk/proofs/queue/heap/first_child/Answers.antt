-- The child that the test picks goes before the other, by what is_before answers.
use mathlib.Core.Path.{refl, sym, ◌∙◌}
use mathlib.Core.Logic.{inl, inr}
use native.Mathlib.Omega.{arith}
use borrow.Author.Rules.{rules}
use Rattle.revwalk.proofs.queue.heap.first_child.Goals as goal

pub returns-then-is_before : goal.returns-then-is_before
returns-then-is_before c = record { low = search rules; left = λ e l. absurd (omega arith); which = inr (refl, sym c.is_before.ensures ∙ c.if-is_before.true) }

pub returns-else-is_before : goal.returns-else-is_before
returns-else-is_before c = record { low = search rules; left = λ e l. sym c.is_before.ensures ∙ c.if-is_before.false; which = inl refl }

pub returns-else-r-n : goal.returns-else-r-n
returns-else-r-n c = record { low = search rules; left = λ e l. absurd (omega arith); which = inl refl }
