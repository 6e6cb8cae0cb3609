-- The front of the file: the header and the rows of the table, set down one after another. Assumes nothing.
use mathlib.Core.Path.{◌≡◌, refl, sym, ◌∙◌, ap}
use mathlib.Core.Bool.{Bool, cond}
use mathlib.Core.List.{List, [], ◌∷◌, ◌++◌}
use Prim.Native.Nat.{ℕ, ◌+◌, ◌*◌, ◌≤◌}
use native.Mathlib.Omega.{arith}
use lib.ListN.{length}
use borrow.Author.Tests.{eq-eqb, ne_eqb}
use Rattle.hash.specs.Bytes.{set_down}
use Rattle.commitgraph.specs.Graph.{OIDF, OIDL, CDAT, EDGE}
use Rattle.graphfile.specs.GraphFile.{ids_end, rows_end, three_chunks, four_chunks, front_of}
use Rattle.graphbytes.specs.Words.{chunk_row}
use Rattle.graphbytes.specs.Words.{front_start}
use Rattle.graphbytes.proofs.Fill.{then}

pub front_laid : (b : List ℕ) {s₁ s₂ s₃ s₄ : List ℕ} (v v' w w' c o n : ℕ) → 44 ≤ length b → s₁ ≡ set_down b 0 (67 ∷ 71 ∷ 80 ∷ 72 ∷ 1 ∷ v ∷ c ∷ 0 ∷ [])
    → s₂ ≡ set_down s₁ 8 (chunk_row OIDF o) → s₃ ≡ set_down s₂ 20 (chunk_row OIDL (o + 1024)) → s₄ ≡ set_down s₃ 32 (chunk_row CDAT (ids_end w o n)) → v ≡ v' → w ≡ w'
    → s₄ ≡ set_down b 0 (front_start v' w' c o n)
front_laid b {s₁} {s₂} {s₃} {s₄} v v' w w' c o n h e₁ e₂ e₃ e₄ ev ew =
    let H : List ℕ = 67 ∷ 71 ∷ 80 ∷ 72 ∷ 1 ∷ v ∷ c ∷ 0 ∷ [] in
    let p : s₂ ≡ set_down b 0 (H ++ chunk_row OIDF o) = then b 0 8 H (chunk_row OIDF o) e₁ e₂ refl (omega arith) in
    let q : s₃ ≡ set_down b 0 ((H ++ chunk_row OIDF o) ++ chunk_row OIDL (o + 1024)) = then b 0 20 (H ++ chunk_row OIDF o) (chunk_row OIDL (o + 1024)) p e₃ refl (omega arith) in
    then b 0 32 ((H ++ chunk_row OIDF o) ++ chunk_row OIDL (o + 1024)) (chunk_row CDAT (ids_end w o n)) q e₄ refl (omega arith)
    ∙ ap (λ (x : ℕ). set_down b 0 (front_start x w c o n)) ev
    ∙ ap (λ (x : ℕ). set_down b 0 (front_start v' x c o n)) ew

pub three_laid : (b : List ℕ) {s₁ s₂ : List ℕ} (v w n e r : ℕ) → 68 ≤ length b → s₁ ≡ set_down b 0 (front_start v w 3 56 n) → s₂ ≡ set_down s₁ 44 (chunk_row 0 r) → r ≡ rows_end w 56 n → e ≡ 0
    → s₂ ≡ set_down b 0 (front_of v w n e)
unfolding front_of three_chunks
three_laid b v w n e r h e₁ e₂ er ee =
    then b 0 44 (front_start v w 3 56 n) (chunk_row 0 r) e₁ e₂ refl (omega arith)
    ∙ ap (λ (x : ℕ). set_down b 0 (front_start v w 3 56 n ++ chunk_row 0 x)) er
    ∙ sym (ap (λ (t : Bool). set_down b 0 (cond t (three_chunks v w n) (four_chunks v w n e))) (eq-eqb e 0 ee))

pub four_laid : (b : List ℕ) {s₁ s₂ s₃ : List ℕ} (v w n e r : ℕ) → 68 ≤ length b → s₁ ≡ set_down b 0 (front_start v w 4 68 n) → s₂ ≡ set_down s₁ 44 (chunk_row EDGE r)
    → s₃ ≡ set_down s₂ 56 (chunk_row 0 (r + 4 * e)) → r ≡ rows_end w 68 n → (e ≡ 0 → ⊥) → s₃ ≡ set_down b 0 (front_of v w n e)
unfolding front_of four_chunks
four_laid b v w n e r h e₁ e₂ e₃ er ee =
    then b 0 56 (front_start v w 4 68 n ++ chunk_row EDGE r) (chunk_row 0 (r + 4 * e)) (then b 0 44 (front_start v w 4 68 n) (chunk_row EDGE r) e₁ e₂ refl (omega arith)) e₃ refl (omega arith)
    ∙ ap (λ (x : ℕ). set_down b 0 ((front_start v w 4 68 n ++ chunk_row EDGE x) ++ chunk_row 0 (x + 4 * e))) er
    ∙ sym (ap (λ (t : Bool). set_down b 0 (cond t (three_chunks v w n) (four_chunks v w n e))) (ne_eqb e 0 ee))
