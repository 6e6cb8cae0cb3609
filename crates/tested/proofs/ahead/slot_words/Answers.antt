-- `ahead::slot_words` meets its contract: the two words, one with the other. Assumes nothing.
use mathlib.Core.Path.{ap, ◌∙◌}
use mathlib.Core.List.{List}
use Prim.Native.Nat.{ℕ}
use lib.Bits.{bit_xor}
use Rattle.hash.specs.Bytes.{u32_at}
use Rattle.tested.proofs.ahead.slot_words.Goals as goal

pub returns : goal.returns
returns c = let id = c.be32.ensures ∙ ap (λ (y : List ℕ). u32_at y 0) c.id_of-id.ensures in
    let cell = c.slot_after.ensures in
    λ i. bit_xor (id i) (cell i)
