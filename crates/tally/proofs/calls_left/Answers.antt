-- `calls_left` meets its contract: none where the task is done. Assumes nothing.
use mathlib.Core.Path.{sym, ◌∙◌}
use Rattle.tally.proofs.Steps.{left-none, left-more}
use borrow.Author.Rules.{rules}
use Rattle.tally.proofs.is_halted.Reads as is-halted-reads
use Rattle.walk.proofs.calls_after.Reads as calls-after-reads
use Rattle.tally.proofs.calls_left.Goals as goal

pub returns-then-is_halted : goal.returns-then-is_halted
returns-then-is_halted c = let x = c.args in left-none x.task x.t x.left x.outcome (sym c.is_halted.ensures ∙ c.if-is_halted.true)

pub returns-else-is_halted : goal.returns-else-is_halted
returns-else-is_halted c = let x = c.args in c.calls_after.ensures ∙ left-more x.task x.t x.left x.outcome (sym c.is_halted.ensures ∙ c.if-is_halted.false)
