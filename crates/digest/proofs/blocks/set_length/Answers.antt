-- `digest::blocks::set_length` meets its contract: the two words of the length, one after the other. Assumes nothing.
use borrow.Author.Rules.{rules}
use mathlib.Core.Path.{◌≡◌, refl, sym, ◌∙◌, ap}
use native.Mathlib.Omega.{arith}
use mathlib.Core.List.{List}
use Prim.Native.Nat.{ℕ}
use Rattle.hash.specs.Bytes.{set_down}
use Rattle.digest.proofs.Padding.{length_down_two}
use Rattle.digest.proofs.blocks.set_length.Goals as goal

pub returns : goal.returns
returns c = let x = c.args in
    c.set_down-2.ensures
    ∙ ap (λ (s : List ℕ). set_down s 60 c.word_bytes-low.result) c.set_down.ensures
    ∙ length_down_two x.b.now c.word_bytes-high.result c.word_bytes-low.result x.l (search rules) c.word_bytes-high.ensures c.word_bytes-low.ensures
