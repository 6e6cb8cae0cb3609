-- `rowvisit::row::followed_count` meets its contract: all n are followed, or the first alone. Assumes nothing.
use mathlib.Core.Path.{sym, ◌∙◌}
use mathlib.Core.Logic.{⊎_elim}
use Rattle.rowvisit.proofs.Rows.{follows_one, follows_few, follows_all}
use Rattle.rowvisit.proofs.row.followed_count.Goals as goal

pub returns-then-n-gt1 : goal.returns-then-n-gt1
returns-then-n-gt1 c = follows_one (sym c.only_first.ensures ∙ c.if-only_first.true) c.if-n-gt1.true

pub returns : goal.returns
returns c = ⊎_elim (λ o. follows_few (sym c.only_first.ensures ∙ o.0) o.1) (λ o. follows_all (sym c.only_first.ensures ∙ o)) c.else-only_first.either
