-- What the functions of the list promise. Assumes nothing.
use Rattle.std.specs.Prelude.{ℕ, ◌+◌, ◌≤◌, ◌<◌, ◌≡◌, List, length}
use Rattle.hash.specs.Bytes.{width_of, set_down}
use Rattle.walk.specs.declared.Refusal.{Refusal}
use Rattle.walk.specs.State.{State}
use Rattle.walk.specs.Opening.{Input, room_for, open_walk, closed, opened}
use Rattle.walk.specs.Calls.{state_after, answers}
use Rattle.state.specs.declared.Record.{Record}
use Rattle.state.specs.Reads.{Reads}
use Rattle.state.specs.Shapes.{shape_of}
use Rattle.traverse.specs.declared.Out.{Out}
use Rattle.walk.specs.Given.{calls_after}
use Rattle.traverse.specs.Contract.{Files, Lent, input_with, lengths_of, NextSays}
use Rattle.swatch.specs.declared.Turn.{Turn}
use Rattle.swatch.specs.Text.{most_bytes, line_given, lines_of, parents_after, text_of, parents_of, input_in, text}

-- the text x is put down at a place, where it fits, and r is the place after it
pub record Puts (out : List ℕ) (at : ℕ) (x : List ℕ) (out' : List ℕ) (r : ℕ) : Type 0 where
  pub same_length : length out' ≡ length out
  pub put : at + length x ≤ length out → (out' ≡ set_down out at x) × (r ≡ at + length x)

-- ---- one call

-- one of `left` calls: it says what a next call says, and its line is put down
pub record ListsCall (f : Files) (left : ℕ) (r : Record) (m : Lent) (out : List ℕ) (at : ℕ) (t : Turn) (m' : Lent) (out' : List ℕ) : Type 0 where
  pub given : Out
  pub says : NextSays f r m given m'
  pub same_record : t.record ≡ given.record
  pub left_is : t.left ≡ calls_after left given.answer.outcome
  pub line : Puts out at (line_given (width_of f.settings.kind) given.answer.outcome given.answer.info.id given.answer.info.parents) out' t.at

-- ---- all calls

-- at most n calls after an accepted opening, up to the first that says end: their lines are put down from the start
pub record ListsCalls (f : Files) (n : ℕ) (r : Record) (m : Lent) (out : List ℕ) (m' : Lent) (out' : List ℕ) (a : ℕ) : Type 0 where
  pub same-lengths : lengths_of m' ≡ lengths_of m
  pub long : length out' ≡ length out
  pub listed : (tips : List ℕ) (st : State) → open_walk (input_with f tips) (room_for (input_with f tips) (lengths_of m)) ≡ opened st
      → Reads r m.memory (shape_of (input_with f tips)) (state_after (input_with f tips) 0)
      → Puts out 0 (lines_of (answers (input_with f tips) n)) out' a × (m'.parents ≡ parents_after (answers (input_with f tips) n) m.parents)

-- ---- from the opening on

-- an opening and all calls after it: the text is put down from the start, "parents past the ids given keeps its bytes", and a refused
-- opening alters no lent byte
pub record ListsStore (i : Input) (m : Lent) (out : List ℕ) (m' : Lent) (out' : List ℕ) (a : ℕ) : Type 0 where
  pub same-lengths : lengths_of m' ≡ lengths_of m
  pub listed : Puts out 0 (text_of i (open_walk i (room_for i (lengths_of m)))) out' a
  pub parents : m'.parents ≡ parents_of i (open_walk i (room_for i (lengths_of m))) m.parents
  pub refused_open : (r : Refusal) → open_walk i (room_for i (lengths_of m)) ≡ closed r → m' ≡ m

-- ---- the whole

-- the list of these bytes: what stands in out, how long it is, and the lent memory
pub record Lists (b : List ℕ) (m : Lent) (out : List ℕ) (m' : Lent) (out' : List ℕ) (a : ℕ) : Type 0 where
  pub listed : most_bytes ≤ length out → out' ≡ set_down out 0 (text b (lengths_of m))
  pub long : most_bytes ≤ length out → a ≡ length (text b (lengths_of m))
  -- always
  pub within : a ≤ length out
  pub same-lengths : lengths_of m' ≡ lengths_of m
  -- where out is shorter nothing is altered
  pub short : length out < most_bytes → (a ≡ 0) × (out' ≡ out) × (m' ≡ m)
  -- the lent memory: the buffer parents, and all of it where nothing is read or the opening is refused; else its bytes are free
  pub parents : most_bytes ≤ length out → length b ≤ most_bytes → m'.parents ≡ parents_of (input_in b) (open_walk (input_in b) (room_for (input_in b) (lengths_of m))) m.parents
  pub too_large : most_bytes < length b → m' ≡ m
  pub refused_open : (r : Refusal) → open_walk (input_in b) (room_for (input_in b) (lengths_of m)) ≡ closed r → m' ≡ m
