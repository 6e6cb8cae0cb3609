-- `feed::add` meets its contract: a line after another makes two. Assumes nothing.
use mathlib.Core.Path.{sym, ap, ◌∙◌}
use Rattle.feed.specs.declared.Told.{Told}
use Rattle.feed.specs.Passing.{another}
use Rattle.feed.proofs.add.Goals as goal

pub returns-in-Nothing : goal.returns-in-Nothing
returns-in-Nothing c = let t = c.args.text.now in c.told_by.ensures ∙ sym (ap (λ (s : Told). another s t) c.in-Nothing.is)
