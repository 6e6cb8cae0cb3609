-- `commititer::is_parent` meets its contract: the token is a parent just where crate `object` finds a parent line. Assumes nothing.
use mathlib.Core.Path.{sym, ◌∙◌}
use lib.ListN.{drop}
use Rattle.hash.specs.Bytes.{width_of}
use Rattle.object.specs.Header.{id_line, parent_word}
use Rattle.object.specs.Read.{parent_at}
use Rattle.object.proofs.Lines.{good-is}
use Rattle.commititer.proofs.ByHeader.{here-parent}
use borrow.Author.Rules.{rules}
use Rattle.commititer.proofs.is_parent.Goals as goal

pub returns : goal.returns
unfolding parent_at
returns c = let w = width_of c.args.kind in c.is_parent_line.ensures ∙ good-is (id_line w parent_word (drop c.args.at c.args.«data».now)) ∙ sym (here-parent w c.args.«data».now c.args.at)
