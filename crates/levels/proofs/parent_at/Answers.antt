-- `levels::parent_at` meets its contract: the line at its place names the parent, and the store tells its entry. Assumes nothing.
use native.Mathlib.Omega.{arith}
use mathlib.Core.Path.{sym, ap, ◌∙◌}
use mathlib.Core.List.{List}
use Prim.Native.Nat.{ℕ}
use Rattle.hash.specs.Bytes.{width_of}
use Rattle.hash.proofs.Widths.{width-most}
use Rattle.object.specs.Read.{parent_at}
use Rattle.odb.specs.Lookup.{entry_body}
use Rattle.levels.specs.StoreGraph.{entry_of}
use Rattle.levels.proofs.Lines.{line-id, line-id-there, line-has-id}
use Rattle.levels.proofs.parent_at.Goals as goal

pub returns-then-j-gt256 : goal.returns-then-j-gt256
returns-then-j-gt256 c = λ q a h. absurd (omega (arith, c.if-j-gt256.true))

pub returns-in_default : goal.returns-in_default
returns-in_default c = let x = c.args in
    let w = width_of x.kind in
    let b = entry_body w x.store.now x.k in
    λ q a h.
    absurd
    (line-id-there w b x.j a h
    (sym (ap (parent_at w b) c.line_place-at.ensures) ∙ sym (ap (λ (y : List ℕ). parent_at w y c.line_place-at.result) c.entry_bytes.ensures) ∙ sym c.parent_line.ensures ∙ c.in_default.is))

pub returns : goal.returns
returns c = let x = c.args in
    let w = width_of x.kind in
    let b = entry_body w x.store.now x.k in
    λ q a h.
    c.entry_of.ensures q
    ∙ ap (entry_of w x.store.now x.n)
    (c.id_slice.ensures
    ∙ line-id w b x.j (width-most x.kind) (line-has-id w b x.j a h)
    (sym (ap (parent_at w b) c.line_place-at.ensures) ∙ sym (ap (λ (y : List ℕ). parent_at w y c.line_place-at.result) c.entry_bytes.ensures) ∙ sym c.parent_line.ensures ∙ c.in-Some.is))
