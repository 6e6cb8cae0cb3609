-- The numbers of a row, and the lists that are told by them alone. Assumes nothing.
use Rattle.std.specs.Prelude.{ℕ, ◌+◌, ◌≤◌, ◌<◌, ◌≡◌, List}
use Rattle.hash.specs.Bytes.{u32_at}
use Rattle.commitgraph.specs.Graph.{no_parent, row_in, top_bit}
use Rattle.commitgraph.specs.declared.Layout.{Layout}

-- a and b are the first two numbers of the row at position p
pub record Numbers (width : ℕ) (g : List ℕ) (l : Layout) (p a b : ℕ) : Type 0 where
  pub first : a ≡ u32_at (row_in width g l p) width
  pub second : b ≡ u32_at (row_in width g l p) (width + 4)

-- n parents, one or two, are listed in a row with the numbers a and b, of a file of so many; n is 0 of other rows
pub record PlainList (count a b n : ℕ) : Type 0 where
  pub few : n ≤ 2
  pub some_first : 0 < n → a ≡ no_parent → ⊥
  pub first-low : 0 < n → a < count
  pub one : n ≡ 1 → b ≡ no_parent
  pub some-second : n ≡ 2 → b ≡ no_parent → ⊥
  pub no_edge : n ≡ 2 → b < top_bit
  pub second-low : n ≡ 2 → b < count
