-- `mergewire::put_base` meets its contract, buffer by buffer. Assumes nothing.
use mathlib.Core.Path.{◌∙◌, ap}
use mathlib.Core.List.{[], ◌∷◌}
use Prim.Native.Nat.{ℕ}
use Rattle.hash.specs.Bytes.{set_down, width_of}
use Rattle.object.specs.Ids.{id_in}
use Rattle.mergewire.proofs.put_base.Goals as goal

pub returns : goal.returns
returns c = let x = c.args in
    record {
      result = c.number.ensures;
      id-is = c.set_down.ensures ∙ ap (set_down x.id.now 0) (c.id_slice.ensures ∙ ap (id_in (width_of x.kind)) c.id_said-x.ensures);
      numbers_are = c.put.ensures ∙ ap (λ (k : ℕ). set_down x.numbers.now 0 (k ∷ [])) c.has_commit.ensures;
    }
