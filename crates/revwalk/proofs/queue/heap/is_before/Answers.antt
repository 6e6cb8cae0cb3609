-- The tests are those of the order, in its own turn: seconds, seconds the other way round, numbers.
use mathlib.Core.Path.{sym, ◌∙◌}
use Rattle.revwalk.proofs.QueueOrders.{goes-yes, goes-no, goes-seq}
use borrow.Author.Rules.{rules}
use Rattle.revwalk.proofs.queue.heap.is_before.Goals as goal

pub returns-then-is_ahead : goal.returns-then-is_ahead
returns-then-is_ahead c = sym (goes-yes _ _ _ _ _ _ (sym c.is_ahead.ensures ∙ c.if-is_ahead.true))

pub returns-then-is_ahead-2 : goal.returns-then-is_ahead-2
returns-then-is_ahead-2 c = sym (goes-no _ _ _ _ _ _ (sym c.is_ahead-else-is_ahead.ensures ∙ c.if-is_ahead-2.true))

pub returns-else-is_ahead-2 : goal.returns-else-is_ahead-2
returns-else-is_ahead-2 c = goes-seq _ _ _ _ _ _ _ _ (sym c.is_ahead.ensures ∙ c.if-is_ahead.false) (sym c.is_ahead-else-is_ahead.ensures ∙ c.if-is_ahead-2.false) c.seq_of.ensures c.seq_of-else-is_ahead-2.ensures
