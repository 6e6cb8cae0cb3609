-- The commit-graph file as it is used, and what the two files say of an id through it. Assumes nothing.
use Rattle.std.specs.Prelude.{ℕ, Bool, false, cond, List, None, Option, Some}
use Rattle.commitgraph.specs.Graph.{layout_of}
use Rattle.commitgraph.specs.declared.Layout.{Layout}
use Rattle.walk.specs.Lookup.{World, no_row, world_of}
use Rattle.walk.specs.State.{is_empty}

-- "A zero-length graph means none"; one that was dropped is used no more; else its chunks stand where the layout l says
unfoldable pub cache_with : List ℕ → Layout → Bool → Option Layout
cache_with g l kept =
    let used : Option Layout = cond (is_empty g) None (Some l) in
    cond kept used None

-- the same by the file's own layout
abbrev pub cache_of : ℕ → List ℕ → Bool → Option Layout
cache_of w g kept = cache_with g (layout_of w g) kept

-- where the chunks stand; without a file all is 0
abbrev pub layout_under : Option Layout → Layout
layout_under (Some l) = l
layout_under None = record { fan = 0; ids = 0; rows = 0; edge = 0; edges = 0; count = 0; levels = false }

-- what the two files say of an id: where no graph is used, no id has a row
unfoldable pub world_under : ℕ → Option Layout → List ℕ → List ℕ → World
world_under w (Some l) g s = world_of w s g
world_under w None g s = record { graph = λ x. no_row; store = (world_of w s g).store }
