-- `levels::has_parent` meets its contract: up to the count a parent line stands at its place exactly below the count. Assumes nothing.
use native.Mathlib.Omega.{arith}
use mathlib.Core.Path.{ap, ◌∙◌}
use mathlib.Core.List.{List}
use Prim.Native.Nat.{ℕ}
use Rattle.hash.specs.Bytes.{width_of}
use Rattle.object.specs.Header.{is_some}
use Rattle.object.specs.Read.{parent_at}
use Rattle.odb.specs.Lookup.{entry_body}
use Rattle.levels.proofs.Lines.{has-line, no_line}
use Rattle.levels.proofs.has_parent.Goals as goal

pub returns-then-j-gt256 : goal.returns-then-j-gt256
returns-then-j-gt256 c = let x = c.args in λ h. no_line (width_of x.kind) (entry_body (width_of x.kind) x.store.now x.k) x.j c.if-j-gt256.true h

pub returns : goal.returns
returns c = let x = c.args in
    let w = width_of x.kind in
    let b = entry_body w x.store.now x.k in
    λ h.
    c.is_parent_line.ensures
    ∙ ap (λ (y : List ℕ). is_some (parent_at w y c.line_place-at.result)) c.entry_bytes.ensures
    ∙ ap (λ (i : ℕ). is_some (parent_at w b i)) c.line_place-at.ensures
    ∙ has-line w b x.j (omega (arith, c.if-j-gt256.false)) h
