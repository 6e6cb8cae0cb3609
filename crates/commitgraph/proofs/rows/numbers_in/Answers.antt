-- `numbers_in` meets its contract: the part is one of the row. Assumes nothing.
use mathlib.Core.Path.{◌∙◌, ap}
use Prim.Native.Nat.{ℕ}
use mathlib.Core.List.{List}
use Rattle.hash.specs.Bytes.{at}
use borrow.Author.Rules.{rules}
use Rattle.commitgraph.proofs.rows.numbers_in.Goals as goal

pub returns : goal.returns
returns c = c.part.ensures ∙ ap (λ (s : List ℕ). at s c.args.w 16) c.row_in.ensures
