-- `graphbytes::put_digest` meets its contract: the part is what stands before the place. Assumes nothing.
use mathlib.Core.Path.{◌∙◌, ap}
use mathlib.Core.List.{List}
use Prim.Native.Nat.{ℕ}
use Rattle.hash.specs.Bytes.{set_down}
use Rattle.hash.specs.Bytes.{at}
use Rattle.commitid.specs.Name.{digest_of}
use Rattle.graphbytes.proofs.put_digest.Goals as goal

pub returns : goal.returns
unfolding at
returns c = let x = c.args in c.set_digest.ensures ∙ ap (λ (m : List ℕ). set_down x.sum.now 0 (digest_of x.kind m)) c.part.ensures
