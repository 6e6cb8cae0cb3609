-- `painting::compute_hidden_frontier` meets its contract: painting is not due, or it is the walk's painting and is finished as the walk's first
-- call finishes it. Assumes nothing.
use mathlib.Core.Logic.{inl, inr}
use mathlib.Core.Path.{sym, ◌∙◌}
use Rattle.painting.proofs.First.{skipped, made}
use borrow.Author.Rules.{rules}
use Rattle.painting.proofs.compute_hidden_frontier.Goals as goal

pub returns-then-ids_in-eq0 : goal.returns-then-ids_in-eq0
returns-then-ids_in-eq0 c = skipped (inl (sym c.ids_in.ensures ∙ c.if-ids_in-eq0.true)) c.skip_painting.ensures

pub returns-then-q-eq0 : goal.returns-then-q-eq0
returns-then-q-eq0 c = skipped (inr c.if-q-eq0.true) c.skip_painting-then-q-eq0.ensures

pub returns : goal.returns
returns c = made (record {
  some-hidden = λ e. c.if-ids_in-eq0.false (c.ids_in.ensures ∙ e);
  some_wait = c.if-q-eq0.false;
  cache-is = c.cache_of-cache.ensures;
  paints = c.compute_hidden_frontier-a.ensures;
  long-times = search rules;
  long-line = search rules;
  finishes = c.finish_painting.ensures;
})
