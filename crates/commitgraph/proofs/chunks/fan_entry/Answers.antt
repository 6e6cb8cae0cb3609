-- `chunks::fan_entry` meets its contract: the number is read where the entry stands. Assumes nothing.
use mathlib.Core.Path.{ap, ◌∙◌}
use Prim.Native.Nat.{ℕ, ◌+◌, ◌*◌}
use Rattle.hash.specs.Bytes.{u32_at}
use Rattle.commitgraph.specs.Graph.{fan_at}
use borrow.Author.Rules.{rules}
use Rattle.commitgraph.proofs.chunks.fan_entry.Goals as goal

pub returns : goal.returns
unfolding fan_at
returns c = let x = c.args in
    c.wide.ensures.0 ∙ c.be32.ensures ∙ ap (λ (s : ℕ). u32_at x.graph.now (s + 4 * x.i)) c.requires.0
