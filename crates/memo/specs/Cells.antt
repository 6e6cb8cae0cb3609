-- A memo in lent memory: for entry k of a store a row of cells, one for either bench to move and each number d of moves left. A cell is 0 where
-- nothing is known, 1 for no and 2 for yes. What has no cell is not remembered. Assumes nothing.
use Rattle.std.specs.Prelude.{ℕ, ◌+◌, ◌*◌, ◌/◌, ◌<◌, ◌≡◌, ◌⊎◌, Bool, true, false, cond, List, length, get_or, set, ltb}

-- the cells of a bench: 0 to 12 moves; of a row: both benches'
abbrev pub side_cells : ℕ
side_cells = 13

abbrev pub row_cells : ℕ
row_cells = 26

-- where a cell stands
abbrev pub cell_at : ℕ → Bool → ℕ → ℕ
cell_at k false d = k * row_cells + d
cell_at k true d = k * row_cells + (side_cells + d)

abbrev pub code_of : Bool → ℕ
code_of true = 2
code_of false = 1

-- a memo of this length has a cell for entry k of n and d moves
unfoldable pub has_cell : ℕ → ℕ → ℕ → ℕ → Bool
has_cell len n k d = cond (ltb k n) (cond (ltb k (len / row_cells)) (ltb d side_cells) false) false

-- what is known
unfoldable pub recalled : List ℕ → ℕ → ℕ → Bool → ℕ → ℕ
recalled m n k bed d = cond (has_cell (length m) n k d) (get_or m (cell_at k bed d) 0) 0

-- the memo with an answer remembered
unfoldable pub noted : List ℕ → ℕ → ℕ → Bool → ℕ → Bool → List ℕ
noted m n k bed d so = cond (has_cell (length m) n k d) (set m (cell_at k bed d) (code_of so)) m

pub record AllZero (m : List ℕ) : Type 0 where
  pub zero-at : (i : ℕ) → get_or m i 0 ≡ 0

-- what the cells of n entries mean: nothing, or what is told
pub record Holds (told : ℕ → Bool → ℕ → Bool) (n : ℕ) (m : List ℕ) : Type 0 where
  pub cell : (k : ℕ) (bed : Bool) (d : ℕ) → k < n → d < side_cells → (get_or m (cell_at k bed d) 0 ≡ 0) ⊎ (get_or m (cell_at k bed d) 0 ≡ code_of (told k bed d))
