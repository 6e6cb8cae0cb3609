-- `graphwire::put_length` meets its contract: the length is set down, and its number given. Assumes nothing.
use mathlib.Core.Path.{◌∙◌, ap}
use mathlib.Core.List.{[], ◌∷◌}
use Prim.Native.Nat.{ℕ}
use Rattle.hash.specs.Bytes.{set_down}
use Rattle.graphwire.proofs.put_length.Goals as goal

pub returns : goal.returns
returns c = let x = c.args in
    record {
      result = c.number.ensures;
      numbers_are = c.put.ensures ∙ ap (λ (k : ℕ). set_down x.numbers.now 0 (k ∷ [])) c.bytes_of.ensures;
    }
