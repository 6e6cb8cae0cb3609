-- `chunks::places` meets its contract, field by field: what `find_start`, `find_chunk` and `last_entry` ensure. Assumes nothing.
use borrow.Author.Rules.{rules}
use mathlib.Core.Path.{ap, ◌∙◌}
use mathlib.Core.Bool.{false}
use Prim.Native.Nat.{ℕ, ◌/◌}
use Rattle.commitgraph.specs.Graph.{places_of}
use Rattle.commitgraph.proofs.Table.{count_at}
use Rattle.commitgraph.proofs.chunks.places.Goals as goal

pub returns : goal.returns
unfolding places_of
returns c =
    λ j. record {
      fan = c.find_start-fan.ensures j;
      ids = c.find_start-ids.ensures j;
      rows = c.find_start-rows.ensures j;
      edge = c.find_chunk-edge.ensures.0 j;
      edges = (ap (λ (n : ℕ). n / 4) c.find_chunk-edge.ensures.1) j;
      count = (c.last_entry-count.ensures.0 ∙ count_at c.args.graph.now _ c.find_start-fan.ensures) j;
      levels = false;
    }
