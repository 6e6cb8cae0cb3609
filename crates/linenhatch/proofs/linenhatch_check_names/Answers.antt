-- `linenhatch::linenhatch_check_names` meets its contract: no room for the number, or the check is made and its report set down. Assumes nothing.
use mathlib.Core.Path.{refl, ◌∙◌, ap}
use mathlib.Core.List.{[], ◌∷◌}
use Rattle.hash.specs.Bytes.{set_down}
use Rattle.fsck.specs.declared.Report.{Report}
use Rattle.fsck.specs.Names.{checked_number}
use Rattle.linenhatch.proofs.linenhatch_check_names.Goals as goal

pub returns-then-numbers-eq0 : goal.returns-then-numbers-eq0
returns-then-numbers-eq0 c = record { no_room = λ e. (refl, refl); result = λ f. absurd (f c.if-numbers-eq0.true); numbers_are = λ f. absurd (f c.if-numbers-eq0.true) }

pub returns : goal.returns
returns c = let x = c.args in
    let k = rw c.kind_of.ensures at c.check_names-r.ensures in
    record {
      no_room = λ e. absurd (c.if-numbers-eq0.false e);
      result = λ f. c.number.ensures ∙ ap (λ (r : Report). checked_number r.outcome) k;
      numbers_are = λ f. c.put.ensures ∙ ap (λ (r : Report). set_down x.numbers.now 0 (r.entry ∷ [])) k;
    }
