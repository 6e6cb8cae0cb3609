-- The commits of a store as a graph: entry k's parents are what its parent lines name, by the numbers of their entries (document 02, card 4). Assumes nothing.
use Rattle.std.specs.Prelude.{◌≡◌, ℕ, ◌+◌, ◌<◌, ◌≤◌, cond, List, [], length, drop, get_or, Result, Ok, Err}
use Rattle.hash.specs.Bytes.{Id, if_some, pick}
use Rattle.idlist.specs.IdList.{find_in}
use Rattle.object.specs.Header.{tree_size, Parents, parent_lines, most as mostLines}
use Rattle.odb.specs.Store.{entry_ids, standing_entries, store_is_ok}
use Rattle.odb.specs.Lookup.{entry_body}
use Rattle.levels.specs.Levels.{Graph, level_of}
use Rattle.levels.specs.Search.{tag, at, answer_of}
use Rattle.levels.specs.declared.LevelsError.{LevelsError}
use Rattle.levels.specs.declared.LevelsError.TheVariants.{Short, Torn}

-- the parent lines behind the place of the tree line, up to 256 of them
unfoldable pub lines_in : ℕ → List ℕ → Parents
lines_in w b = parent_lines w mostLines (drop (tree_size w) b)

-- how many there are; of a crowded commit one more than 256
unfoldable pub lines_count : ℕ → List ℕ → ℕ
lines_count w b = length (lines_in w b).ids + cond (lines_in w b).more 1 0

-- the number of the entry under an id, n where there is none
unfoldable pub entry_of : ℕ → List ℕ → ℕ → Id → ℕ
entry_of w b n x = if_some (find_in (entry_ids w b) x (standing_entries w b)) n (λ k. k)

-- the graph of n entries: a parent that is no entry is n
abbrev pub store_graph : ℕ → List ℕ → ℕ → Graph
store_graph w b n = record {
  nodes = n;
  count = λ k. lines_count w (entry_body w b k);
  parent = λ k j. entry_of w b n (get_or (lines_in w (entry_body w b k)).ids j []);
}

abbrev pub graph_in : ℕ → List ℕ → Graph
graph_in w b = store_graph w b (standing_entries w b)

-- the answer for n lent levels
unfoldable pub store_answer : ℕ → List ℕ → ℕ → Result (Unit {0}) LevelsError
store_answer w b n = pick (store_is_ok w b) (answer_of (graph_in w b) n) (Err Torn)

-- what the search does to the lent levels s of a store b
pub record StoreLevels (w : ℕ) (b s s' : List ℕ) (r : Result (Unit {0}) LevelsError) : Type 0 where
  pub answer : r ≡ store_answer w b (length s)
  pub levels : r ≡ (Ok tt) → (k : ℕ) → k < standing_entries w b → at s' k ≡ tag + level_of (graph_in w b) k
  pub kept : (k : ℕ) → standing_entries w b ≤ k → at s' k ≡ at s k
  pub short : r ≡ (Err Short) → s' ≡ s
  pub torn : r ≡ (Err Torn) → s' ≡ s

unfoldable pub store_graph_all : Unit {0}
unfolding lines_in lines_count entry_of store_answer
store_graph_all = tt
