-- What a next call reads of a commit's row in the commit-graph file. Assumes nothing.
use Rattle.std.specs.Prelude.{ℕ, List, length, None, Option, Some}
use Rattle.hash.specs.Bytes.{Id}
use Rattle.commitgraph.specs.Graph.{id_in, level_in, parent_in}
use Rattle.commitgraph.specs.declared.Layout.{Layout}
use Rattle.commitgraph.specs.declared.Level.{Level}
use Rattle.reading.specs.declared.row.RowRead.{RowRead}

abbrev pub level_of : ℕ → List ℕ → Layout → ℕ → Level
level_of w g l p = record { 0 = level_in w g l p }

-- a row with n parents and the level v
abbrev pub row_with : ℕ → Level → RowRead
row_with n v = record { parents = n; level = v }

-- a row as an answer, with its level and its parent list: none where that is corrupt
abbrev pub row_read_of : Level → Option (List ℕ) → Option RowRead
row_read_of v None = None
row_read_of v (Some ps) = Some (row_with (length ps) v)

-- the id of parent k of the row at position p, by its place in the row's list, on any bytes
unfoldable pub row_parent : ℕ → List ℕ → Layout → ℕ → ℕ → Id
row_parent w g l p k = id_in w g l (parent_in w g l p k)
