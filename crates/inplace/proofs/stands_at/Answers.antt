-- `inplace::stands_at` meets its contract: the position is one of the file's, and the ids are compared. Assumes nothing.
use mathlib.Core.Path.{refl, sym, ◌∙◌}
use borrow.Author.Tests.{eqb-true}
use Rattle.hash.proofs.Ids.{eq_id_eq}
use Rattle.hash.proofs.Tests.{and_both, clash}
use Rattle.inplace.proofs.stands_at.Goals as goal

pub returns-then-position-l : goal.returns-then-position-l
returns-then-position-l c = λ e.
    let same = and_both (sym c.same_id.ensures ∙ e) in
    record { low = c.if-position-l.true; same = sym c.id_at.ensures ∙ eq_id_eq _ _ same.1; wide = eqb-true _ _ same.0 }

pub returns : goal.returns
returns c = λ e. clash e refl
