-- `commititer::after_parent` meets its contract: a parent line has its kind's length, and crate `object` tells where the author line ends.
-- Assumes nothing.
use Rattle.std.specs.Prelude.{Option}
use mathlib.Core.Path.{sym, ap, ◌∙◌}
use mathlib.Core.List.{List}
use Prim.Native.Nat.{ℕ, ◌+◌}
use native.Mathlib.Omega.{arith}
use lib.ListN.{drop}
use Rattle.hash.specs.Bytes.{Id, width_of}
use Rattle.object.specs.Header.{author_line}
use Rattle.object.proofs.Parents.{parent-fits, parent-bad}
use Rattle.commititer.specs.Token.{here, author_told, parent_told, place_of, line_in, line_at, after_token}
use Rattle.commititer.specs.declared.State.TheVariants.{Parents}
use Rattle.commititer.proofs.Told.{parent-next}
use borrow.Author.Rules.{rules}
use Rattle.commititer.proofs.after_parent.Reads as reads
use Rattle.commititer.proofs.after_parent.Goals as goal

pub overflow_add-result : goal.overflow_add-result
overflow_add-result c = let x = c.args in
    omega (arith, parent-fits (width_of x.kind) x.«data».now x.at c.is_parent_line.ensures c.if-is_parent_line.true, c.parent_size.ensures.0)

pub returns-then-is_parent_line : goal.returns-then-is_parent_line
unfolding after_token line_at line_in
returns-then-is_parent_line c = let x = c.args in
    let b = x.«data».now in
    ap (λ (n : ℕ). here (x.at + n) Parents) c.parent_size.ensures.0
    ∙ parent-next (width_of x.kind) b x.at (author_told (author_line (drop x.at b))) c.is_parent_line.ensures c.if-is_parent_line.true

pub returns : goal.returns
unfolding after_token line_at line_in
returns c = let x = c.args in
    let b = x.«data».now in
    c.after_author.ensures
    ∙ sym (ap (λ (o : Option (Id × List ℕ)). place_of b (parent_told o (author_told (author_line (drop x.at b))))) (parent-bad (width_of x.kind) b x.at c.is_parent_line.ensures c.if-is_parent_line.false))
