-- What is read of one entry of a store for its row. Assumes nothing.
use Rattle.std.specs.Prelude.{◌≡◌, ℕ, zero, suc, ◌+◌, ◌-◌, ◌≤◌, ◌<◌, cond, List, length, get_or, ltb, nat_abs, None, Option, Some, Ok, Err}
use Rattle.object.specs.Header.{header}
use Rattle.object.specs.Read.{reading_of, Reading}
use Rattle.odb.specs.Lookup.{entry_id, entry_body}
use Rattle.levels.specs.Levels.{level_of}
use Rattle.levels.specs.Search.{at, tag}
use Rattle.levels.specs.StoreGraph.{graph_in, lines_in}
use Rattle.graphplan.specs.StoreRows.{fit_seconds}
use Rattle.graphplan.specs.declared.entry.Head.{Head}

-- what is read of a header for its row
abbrev pub head_given : Reading → Option Head
head_given (Ok r) = Some (record { parents = r.parents; seconds = nat_abs r.stamp.seconds.0; fits = fit_seconds r.stamp.seconds.0 })
head_given (Err e) = None

unfoldable pub head_read : ℕ → List ℕ → Option Head
head_read w b = head_given (reading_of (header w b))

-- how many entries of EDGE a row of c parents has
abbrev pub edges_count : ℕ → ℕ
edges_count c = cond (ltb 2 c) (c - 1) 0

-- how many the first n entries of a store have
unfoldable pub edges_up_to : ℕ → List ℕ → ℕ → ℕ
edges_up_to w b zero = 0
edges_up_to w b (suc n) = edges_up_to w b n + edges_count (length (lines_in w (entry_body w b n)).ids)

-- the first byte of the id of entry k
abbrev pub byte_of : ℕ → List ℕ → ℕ → ℕ
byte_of w b k = get_or (entry_id w b k) 0 0

-- from k on, past the values that are at most x
pub record Advanced (f : ℕ → ℕ) (n k x r : ℕ) : Type 0 where
  pub from : k ≤ n → k ≤ r
  pub to : k ≤ n → r ≤ n
  pub low : (j : ℕ) → k ≤ j → j < r → f j ≤ x
  pub stop : r < n → x < f r

-- the lent levels hold the levels of n entries
pub record Holds (w : ℕ) (b s : List ℕ) (n : ℕ) : Type 0 where
  pub level : (k : ℕ) → k < n → at s k ≡ tag + level_of (graph_in w b) k
