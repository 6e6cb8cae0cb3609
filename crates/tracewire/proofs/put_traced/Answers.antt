-- `tracewire::put_traced` meets its contract, buffer by buffer. Assumes nothing.
use mathlib.Core.Path.{◌∙◌, ap}
use mathlib.Core.List.{[], ◌∷◌}
use Prim.Native.Nat.{ℕ}
use Rattle.hash.specs.Bytes.{set_down, width_of}
use Rattle.object.specs.Ids.{id_in}
use Rattle.tracewire.specs.Wire.{prospect_kind}
use Rattle.tracewire.proofs.put_traced.Goals as goal

-- src/lib.rt:69:1
pub returns : goal.returns
returns c = let x = c.args in record { result = c.number.ensures; id-is = c.set_down.ensures ∙ ap (set_down x.id.now 0) (c.id_slice.ensures ∙ ap (id_in (width_of x.kind)) c.id_said-x.ensures); numbers_are = c.put.ensures ∙ ap (λ (k : ℕ). set_down x.numbers.now 0 (k ∷ c.parent_of.result ∷ [])) c.sort_of.ensures ∙ ap (λ (k : ℕ). set_down x.numbers.now 0 (prospect_kind x.said ∷ k ∷ [])) c.parent_of.ensures }
