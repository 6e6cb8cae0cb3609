-- `ahead::row_words` meets its contract: the three words, one with the other. Assumes nothing.
use mathlib.Core.Path.{ap, ◌∙◌}
use mathlib.Core.List.{List}
use Prim.Native.Nat.{ℕ}
use lib.Bits.{bit_xor}
use Rattle.hash.specs.Bytes.{u32_at}
use Rattle.tested.proofs.ahead.row_words.Goals as goal

pub returns : goal.returns
returns c = let width = c.width.ensures.0 in
    let row = c.be32.ensures ∙ (λ i. u32_at (c.row-row.ensures i) (width i)) in
    let id = c.be32-2.ensures ∙ ap (λ (y : List ℕ). u32_at y 0) c.id_at-id.ensures in
    let entry = c.be32-3.ensures ∙ ap (λ (y : List ℕ). u32_at y 0) c.entry_id-entry.ensures in
    λ i. bit_xor (bit_xor (row i) (id i)) (entry i)
