-- `chunks::first_byte` meets its contract: the byte is read where the id stands. Assumes nothing.
use mathlib.Core.Path.{◌≡◌, ap, ◌∙◌}
use Prim.Native.Nat.{ℕ, ◌+◌, ◌*◌}
use lib.ListN.{get_or}
use Rattle.commitgraph.specs.Graph.{first_byte}
use borrow.Author.Rules.{rules}
use Rattle.commitgraph.proofs.chunks.first_byte.Goals as goal

pub returns : goal.returns
unfolding first_byte
returns c =
    let x = c.args in
    (c.wide_byte.ensures.0 ∙ c.byte_at.ensures ∙ ap (λ (i : ℕ). get_or x.graph.now (i + x.w * x.k) 0) c.requires.0, c.wide_byte.ensures.1)
