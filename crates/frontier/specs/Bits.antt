-- Painting's marks as bits of one byte (document 01: VISIBLE, HIDDEN, STALE). Assumes nothing.
use Rattle.std.specs.Prelude.{ℕ, ◌%◌, Bool, cond, not, ◌&&◌, ◌||◌}
use Rattle.hashtable.specs.Marks.{visible, hidden, stale, with_visible, with_hidden, with_stale}
use Rattle.walk.specs.Painting.{Marks}

-- the marks that a byte has
abbrev pub marks_of : ℕ → Marks
marks_of b = record { v = visible b; h = hidden b; s = stale b }

-- a mark has one of painting's three
unfoldable pub is_painted : ℕ → Bool
is_painted m = visible m || (hidden m || stale m)

-- the mark m with one bit of b more, where b has it
unfoldable pub add_visible : ℕ → ℕ → ℕ
add_visible b m = cond (visible b) (with_visible m) m

unfoldable pub add_hidden : ℕ → ℕ → ℕ
add_hidden b m = cond (hidden b) (with_hidden m) m

unfoldable pub add_stale : ℕ → ℕ → ℕ
add_stale b m = cond (stale b) (with_stale m) m

-- the mark m with all of painting's bits that b has
unfoldable pub with_bits : ℕ → ℕ → ℕ
with_bits b m = add_stale b (add_hidden b (add_visible b m))

-- "lacking a passed mark": m lacks a bit of b
unfoldable pub lacks_bits : ℕ → ℕ → Bool
lacks_bits b m = (visible b && not (visible m)) || (hidden b && not (hidden m)) || (stale b && not (stale m))

-- what a commit with the mark m passes on: "if its marks are exactly the first two, add STALE to what is passed (not to itself)"
unfoldable pub passed_bits : ℕ → ℕ
passed_bits m = cond (visible m && hidden m) (with_stale (m % 8)) (m % 8)
