-- Numbers of a commit-graph file that stand together, and the front that they make. Assumes nothing.
use Rattle.std.specs.Prelude.{ℕ, ◌+◌, cond, List, ◌∷◌, ◌++◌, eqb}
use Rattle.commitgraph.specs.Graph.{OIDF, OIDL, CDAT}
use Rattle.graphfile.specs.GraphFile.{u32, ids_end}

-- a row of the table of chunks: id and offset
abbrev pub chunk_row : ℕ → ℕ → List ℕ
chunk_row c o = u32 c ++ (u32 0 ++ u32 o)

-- the four numbers of a row
abbrev pub four_words : ℕ → ℕ → ℕ → ℕ → List ℕ
four_words a b c d = u32 a ++ (u32 b ++ (u32 c ++ u32 d))

-- the header, and the rows of the three chunks that every file has; o is where the fan-out starts
abbrev pub front_start : ℕ → ℕ → ℕ → ℕ → ℕ → List ℕ
front_start v w c o n =
    67 ∷ 71 ∷ 80 ∷ 72 ∷ 1 ∷ v ∷ c ∷ 0 ∷ (chunk_row OIDF o ++ (chunk_row OIDL (o + 1024) ++ chunk_row CDAT (ids_end w o n)))

-- where the fan-out starts
abbrev pub front_length : ℕ → ℕ
front_length e = cond (eqb e 0) 56 68
