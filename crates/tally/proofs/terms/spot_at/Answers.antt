-- `terms::spot_at` meets its contract: the calendar's answer, where it is a term. Assumes nothing.
use mathlib.Core.Path.{◌∙◌, ap}
use mir.Syntax.{w64}
use mir.Facts.{to_z-of_z}
use Rattle.calendar.specs.Terms.{term_at}
use Rattle.tally.proofs.Counting.{spot_yes, spot_no}
use borrow.Author.Rules.{rules}
use Rattle.tally.proofs.terms.spot_at.Goals as goal

pub returns-then-k-terms : goal.returns-then-k-terms
returns-then-k-terms c = λ ok. spot_yes c.args.terms.now c.args.s.0 c.term_at-k.result (c.term_at-k.ensures.1 ok ∙ ap (term_at c.args.terms.now) (to_z-of_z {w = w64} {z = c.args.s.0} (record { sfits = c.struct_told-1.given.0.1 }))) c.if-k-terms.true

pub returns-else-k-terms : goal.returns-else-k-terms
returns-else-k-terms c = λ ok. spot_no c.args.terms.now c.args.s.0 c.term_at-k.result (c.term_at-k.ensures.1 ok ∙ ap (term_at c.args.terms.now) (to_z-of_z {w = w64} {z = c.args.s.0} (record { sfits = c.struct_told-1.given.0.1 }))) c.if-k-terms.false
