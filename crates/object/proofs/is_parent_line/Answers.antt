-- `object::is_parent_line` meets its contract: it is the test of the line with an id whose word is `parent `. Assumes nothing.
use mathlib.Core.Path.{sym, ◌∙◌}
use lib.ListN.{drop}
use Rattle.object.specs.Header.{id_line, parent_word}
use Rattle.object.specs.Read.{parent_at}
use Rattle.object.proofs.Lines.{good-is}
use Rattle.hash.specs.Bytes.{width_of}
use borrow.Author.Rules.{rules}
use Rattle.object.proofs.is_parent_line.Goals as goal

pub returns : goal.returns
unfolding parent_at
returns c = let x = c.args in c.is_id_line.ensures ∙ sym (good-is (id_line (width_of x.kind) parent_word (drop x.at x.body.now)))
