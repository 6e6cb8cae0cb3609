-- `set_down_commit` meets its contract: only a commit is set down. Assumes nothing.
use mathlib.Core.Path.{sym, ap, ◌∙◌}
use Prim.Native.Nat.{◌*◌}
use Rattle.hash.specs.Bytes.{width_of, set_down}
use Rattle.walk.specs.declared.Outcome.{Outcome}
use Rattle.tally.specs.Tally.{ids_after}
use borrow.Author.Rules.{rules}
use Rattle.tally.proofs.set_down_commit.Goals as goal

pub returns-in-Commit : goal.returns-in-Commit
returns-in-Commit c = let x = c.args in c.set_nth.ensures ∙ ap (set_down x.ids.now (width_of x.kind * x.n)) c.id_slice.ensures ∙ ap (λ (o : Outcome). ids_after (width_of x.kind) x.ids.now x.n o x.answer.info.id) (sym c.in-Commit.is)

pub returns-in-End : goal.returns-in-End
returns-in-End c = let x = c.args in ap (λ (o : Outcome). ids_after (width_of x.kind) x.ids.now x.n o x.answer.info.id) (sym c.in-End.is)

pub returns-in-Refused : goal.returns-in-Refused
returns-in-Refused c = let x = c.args in ap (λ (o : Outcome). ids_after (width_of x.kind) x.ids.now x.n o x.answer.info.id) (sym c.in-Refused.is)
