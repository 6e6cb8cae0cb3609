-- The rows of a store (document 02, card 4): "Two books with the same ids, trees, parents and seconds give equal files", since a row is made of nothing else.
-- Assumes nothing.
use Rattle.std.specs.Prelude.{◌≡◌, ℕ, zero, suc, ◌≤◌, Bool, true, false, cond, List, [], ◌∷◌, length, ltb, ℤ, pos, nat_abs, None, Option, Some, Ok, Err}
use Rattle.std.specs.Int.Signed.{lt_z}
use Rattle.hash.specs.Bytes.{Id, if_some}
use Rattle.object.specs.Header.{id_line, tree_word, seconds_of, header}
use Rattle.object.specs.Read.{reading_of, Reading}
use Rattle.odb.specs.Store.{standing_entries, store_is_ok}
use Rattle.odb.specs.Lookup.{entry_id, entry_body}
use Rattle.levels.specs.Levels.{level_of, all_below, fit}
use Rattle.levels.specs.StoreGraph.{lines_in, entry_of, graph_in}
use Rattle.graphfile.specs.GraphFile.{Row}

-- ---- one body

-- the id of a line that may stand there
abbrev pub id_or : Option (Id × List ℕ) → Id
id_or None = []
id_or (Some t) = t.0

-- its tree
unfoldable pub tree_of : ℕ → List ℕ → Id
tree_of w b = id_or (id_line w tree_word b)

-- its seconds, without their sign
unfoldable pub seconds_size : ℕ → List ℕ → ℕ
seconds_size w b = if_some (seconds_of w b) 0 nat_abs

-- "A commit is readable if all four parts hold and it has at most 256 parents" (document 01)
abbrev pub is_readable : Reading → Bool
is_readable (Ok r) = true
is_readable (Err e) = false

unfoldable pub readable_body : ℕ → List ℕ → Bool
readable_body w b = is_readable (reading_of (header w b))

-- not "seconds outside 0 to 17,179,869,183"
abbrev pub most_seconds : ℕ
most_seconds = 17179869184

unfoldable pub fit_seconds : ℤ → Bool
fit_seconds s = cond (lt_z s (pos 0)) false (ltb (nat_abs s) most_seconds)

unfoldable pub fit_time : ℕ → List ℕ → Bool
fit_time w b = if_some (seconds_of w b) false fit_seconds

-- ---- the store

-- the numbers of the entries under some ids
unfoldable pub numbers_of : ℕ → List ℕ → List Id → List ℕ
numbers_of w b [] = []
numbers_of w b (x ∷ xs) = entry_of w b (standing_entries w b) x ∷ numbers_of w b xs

unfoldable pub row_of : ℕ → List ℕ → ℕ → Row
row_of w b k = record {
  id = entry_id w b k;
  tree = tree_of w (entry_body w b k);
  parents = numbers_of w b (lines_in w (entry_body w b k)).ids;
  level = level_of (graph_in w b) k;
  seconds = seconds_size w (entry_body w b k);
}

-- the rows of m entries from k on
unfoldable pub rows_from : ℕ → List ℕ → ℕ → ℕ → List Row
rows_from w b k zero = []
rows_from w b k (suc m) = row_of w b k ∷ rows_from w b (suc k) m

unfoldable pub rows_of : ℕ → List ℕ → List Row
rows_of w b = rows_from w b 0 (standing_entries w b)

-- not "18 unfit book (an entry unreadable, a parent absent, or no levels can satisfy the rule)"
unfoldable pub all_readable : ℕ → List ℕ → ℕ → Bool
all_readable w b n = all_below (λ k. readable_body w (entry_body w b k)) n

unfoldable pub fit_store : ℕ → List ℕ → Bool
fit_store w b = let r : Bool = all_readable w b (standing_entries w b) in cond (fit (graph_in w b)) r false

-- not 19
unfoldable pub all_in_time : ℕ → List ℕ → ℕ → Bool
all_in_time w b n = all_below (λ k. fit_time w (entry_body w b k)) n

-- a store of n entries that can be written
pub record Writable (w : ℕ) (b : List ℕ) (n : ℕ) : Type 0 where
  pub small : length b ≤ 16777216
  pub ok : store_is_ok w b ≡ true
  pub many : n ≡ standing_entries w b
  pub fits : fit (graph_in w b) ≡ true
  pub readable : all_readable w b n ≡ true
  pub in_time : all_in_time w b n ≡ true

unfoldable pub rows_all : Unit {0}
unfolding tree_of seconds_size readable_body fit_seconds fit_time numbers_of row_of rows_from rows_of all_readable fit_store all_in_time
rows_all = tt
