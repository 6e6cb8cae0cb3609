-- `object::tree_line` meets its contract: it is the line with an id whose word is `tree `, and a good one is 46 bytes long. Assumes nothing.
use Rattle.std.specs.Prelude.{Some}
use mathlib.Core.Path.{sym, ◌∙◌}
use native.Mathlib.Omega.{arith}
use Rattle.object.specs.Header.{tree_word}
use Rattle.object.specs.Read.{tree_at}
use Rattle.object.proofs.Lines.{good-place, bad-place, line-fits}
use Rattle.hash.specs.Bytes.{width_of}
use Prim.Native.Nat.{ℕ, ◌+◌}
use mathlib.Core.Path.{ap}
use borrow.Author.Rules.{rules}
use Rattle.object.proofs.tree_line.Goals as goal

pub overflow_add-result : goal.overflow_add-result
overflow_add-result c = let x = c.args in omega (arith, line-fits (width_of x.kind) tree_word x.body.now x.at (sym c.is_id_line.ensures ∙ c.if-is_id_line.true))

pub returns-then-is_id_line : goal.returns-then-is_id_line
unfolding tree_at
returns-then-is_id_line c = let x = c.args in ap (λ (n : ℕ). Some (x.at + n)) c.tree_size.ensures.0 ∙ sym (good-place (width_of x.kind) tree_word x.body.now x.at (sym c.is_id_line.ensures ∙ c.if-is_id_line.true))

pub returns-else-is_id_line : goal.returns-else-is_id_line
unfolding tree_at
returns-else-is_id_line c = let x = c.args in sym (bad-place (width_of x.kind) tree_word x.body.now x.at (sym c.is_id_line.ensures ∙ c.if-is_id_line.false))
