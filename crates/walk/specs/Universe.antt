-- The ids that an input names: its tips and hidden tips, the store's parent lines and the graph's rows. They are at most P, and the walk
-- meets no other (`universe_length`, `all_named`). Assumes nothing.
use Rattle.std.specs.Prelude.{ℕ, zero, suc, List, [], ◌∷◌, ◌++◌}
use Rattle.hash.specs.Bytes.{Id}
use Rattle.object.specs.Header.{header}
use Rattle.odb.specs.Store.{entries, body}
use Rattle.commitgraph.specs.Graph.{graph_count, graph_id}
use Rattle.walk.specs.Opening.{Input, list_ids, width_in}

-- the ids in the parent lines of the first k bodies
unfoldable pub parents_up_to : ℕ → List ℕ → ℕ → List Id
parents_up_to width b zero = []
parents_up_to width b (suc k) = parents_up_to width b k ++ (header width (body width b k)).ids

-- of all bodies
unfoldable pub store_parents : ℕ → List ℕ → List Id
store_parents width b = parents_up_to width b (entries b)

-- the ids of k rows
unfoldable pub row_ids : ℕ → List ℕ → ℕ → List Id
row_ids width g zero = []
row_ids width g (suc k) = graph_id width g k ∷ (row_ids width) g k

-- all that a visit can meet
abbrev pub names : Input → List Id
names i = store_parents (width_in i) i.store ++ row_ids (width_in i) i.graph (graph_count i.graph)

-- the tips, the hidden tips, and the ids that the files name as parents or rows
unfoldable pub universe : Input → List Id
universe i = list_ids (width_in i) i.tips ++ (list_ids (width_in i) i.hidden ++ names i)
