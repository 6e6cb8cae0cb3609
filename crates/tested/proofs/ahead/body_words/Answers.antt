-- `ahead::body_words` meets its contract: four words of the body that was found. Assumes nothing.
use mathlib.Core.Path.{ap, ◌∙◌}
use mathlib.Core.List.{List}
use Prim.Native.Nat.{ℕ}
use lib.Bits.{bit_xor}
use Rattle.hash.specs.Bytes.{u32_at}
use Rattle.tested.proofs.ahead.body_words.Goals as goal

pub returns : goal.returns
returns c = let body = c.entry_bytes-body.ensures in
    let first = c.be32.ensures ∙ ap (λ (y : List ℕ). u32_at y 0) body in
    let second = c.be32-2.ensures ∙ ap (λ (y : List ℕ). u32_at y 64) body in
    let third = c.be32-3.ensures ∙ ap (λ (y : List ℕ). u32_at y 128) body in
    let fourth = c.be32-4.ensures ∙ ap (λ (y : List ℕ). u32_at y 192) body in
    λ i. bit_xor (bit_xor (bit_xor (first i) (second i)) (third i)) (fourth i)
