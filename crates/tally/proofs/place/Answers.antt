-- `place` meets its contract: by the cases of the term. Assumes nothing.
use mathlib.Core.Path.{sym, ◌∙◌, ap}
use Rattle.tally.specs.Terms.{counts_at}
use Rattle.tally.specs.Tally.{placed}
use borrow.Author.Rules.{rules}
use Rattle.tally.proofs.place.Goals as goal

pub count-requires : goal.count-requires
count-requires c = c.requires

pub one_outside-requires : goal.one_outside-requires
one_outside-requires c = c.requires

pub returns-in-Some : goal.returns-in-Some
returns-in-Some c = let x = c.args in (c.count.ensures ∙ ap (placed x.t) (sym c.in-Some.is), λ f. c.bump.ensures f ∙ ap (counts_at x.counts.now) (sym c.in-Some.is))

pub returns-in-None : goal.returns-in-None
returns-in-None c = let x = c.args in (c.one_outside.ensures ∙ ap (placed x.t) (sym c.in-None.is), λ f. ap (counts_at x.counts.now) (sym c.in-None.is))
