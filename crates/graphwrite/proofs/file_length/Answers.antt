-- `graphwrite::file_length` meets its contract: whether there are entries of EDGE decides which table stands in front. Assumes nothing.
use mathlib.Core.Path.{sym, ◌∙◌, ap}
use mathlib.Core.Bool.{Bool, cond}
use Prim.Native.Nat.{ℕ, ◌+◌, ◌*◌}
use Rattle.hash.specs.Bytes.{width_of}
use borrow.Author.Tests.{eq-eqb, ne_eqb}
use Rattle.graphfile.specs.GraphFile.{rows_end, file_length}
use Rattle.graphwrite.proofs.file_length.Goals as goal

pub returns-then-e-eq0 : goal.returns-then-e-eq0
unfolding file_length
returns-then-e-eq0 c = let x = c.args in
    let w = width_of x.kind in
    ap (λ (y : ℕ). y + c.width-w.result) c.rows_end.ensures.0
    ∙ ap (λ (y : ℕ). rows_end w 56 x.n + y) c.width-w.ensures.0
    ∙ sym (ap (λ (t : Bool). cond t (rows_end w 56 x.n) (rows_end w 68 x.n + 4 * x.e) + w) (eq-eqb x.e 0 c.if-e-eq0.true))

pub returns : goal.returns
unfolding file_length
returns c = let x = c.args in
    let w = width_of x.kind in
    ap (λ (y : ℕ). y + 4 * x.e + c.width-w.result) c.rows_end-2.ensures.0
    ∙ ap (λ (y : ℕ). rows_end w 68 x.n + 4 * x.e + y) c.width-w.ensures.0
    ∙ sym (ap (λ (t : Bool). cond t (rows_end w 56 x.n) (rows_end w 68 x.n + 4 * x.e) + w) (ne_eqb x.e 0 c.if-e-eq0.false))
