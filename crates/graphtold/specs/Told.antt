-- What is said of written graph files (document 02, card 4): when there is none, that equal commits give equal files, and that our reader finds each file
-- in agreement. Assumes nothing.
use Rattle.std.specs.Prelude.{◌≡◌, ℕ, ◌≤◌, ◌<◌, true, false, List, [], length, take, get_or, None, Some}
use Rattle.hash.specs.Bytes.{width_of}
use Rattle.hash.specs.declared.Kind.{Kind}
use Rattle.object.specs.Header.{header, seconds_of}
use Rattle.odb.specs.Store.{standing_entries, store_is_ok}
use Rattle.odb.specs.Lookup.{entry_id, entry_body}
use Rattle.levels.specs.Levels.{Rule, level_of}
use Rattle.levels.specs.StoreGraph.{graph_in}
use Rattle.graphplan.specs.StoreRows.{tree_of, readable_body}
use Rattle.graphplan.specs.Refusing.{most_bytes, refusal_for}
use Rattle.graphwrite.specs.Writing.{file_of}
use Rattle.walk.specs.declared.Refusal.TheVariants.{UnfitStore}

-- ---- 18

-- "18 unfit book (an entry unreadable, a parent absent, or no levels can satisfy the rule)"
pub data Unfit (w : ℕ) (b : List ℕ) : Type 0 where
  unreadable : (k : ℕ) → k < standing_entries w b → readable_body w (entry_body w b k) ≡ false → Unfit w b
  absent : (k j : ℕ) → k < standing_entries w b → j < length (header w (entry_body w b k)).ids
      → ((q : ℕ) → q < standing_entries w b → entry_id w b q ≡ get_or (header w (entry_body w b k)).ids j [] → ⊥) → Unfit w b
  no-levels : ((lv : ℕ → ℕ) → Rule (graph_in w b) lv → ⊥) → Unfit w b

-- 18 is said of an unfit store alone, and of each one to which 2, 4 and 1 do not apply
pub record UnfitExactly (w : ℕ) (b : List ℕ) (lent : ℕ) : Type 0 where
  pub told : refusal_for w b lent ≡ Some UnfitStore → Unfit w b
  pub only : length b ≤ most_bytes → store_is_ok w b ≡ true → standing_entries w b ≤ lent → Unfit w b → refusal_for w b lent ≡ Some UnfitStore

-- the levels of a store that is not refused satisfy the rule, and no others do
pub record LevelsOnce (w : ℕ) (b : List ℕ) : Type 0 where
  pub rule : Rule (graph_in w b) (level_of (graph_in w b))
  pub once : (lv : ℕ → ℕ) → Rule (graph_in w b) lv → (k : ℕ) → k < standing_entries w b → lv k ≡ level_of (graph_in w b) k

-- ---- equal files

-- "the same ids, trees, parents and seconds": of entry k
pub record SameCommit (w : ℕ) (a b : List ℕ) (k : ℕ) : Type 0 where
  pub id : entry_id w a k ≡ entry_id w b k
  pub tree : tree_of w (entry_body w a k) ≡ tree_of w (entry_body w b k)
  pub parents : (header w (entry_body w a k)).ids ≡ (header w (entry_body w b k)).ids
  pub seconds : seconds_of w (entry_body w a k) ≡ seconds_of w (entry_body w b k)

pub record SameCommits (w : ℕ) (a b : List ℕ) : Type 0 where
  pub many : standing_entries w a ≡ standing_entries w b
  pub each : (k : ℕ) → k < standing_entries w a → SameCommit w a b k

-- ---- what a writing leaves

-- a writing that gives n bytes: nothing refuses the store, and the first n bytes of the output are its file
pub record FileThere (kind : Kind) (b s : List ℕ) (n : ℕ) (out out' : List ℕ) : Type 0 where
  pub accepted : refusal_for (width_of kind) b (length s) ≡ None
  pub long : length (file_of kind b) ≡ n
  pub room : n ≤ length out
  pub there : take n out' ≡ file_of kind b
