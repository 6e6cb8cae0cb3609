-- What the functions of this crate answer, which pass the lines of a message one by one. Assumes nothing.
use Rattle.std.specs.Prelude.{ℕ, List, [], ◌∷◌, length, None, Option, Some}
use Rattle.hash.specs.Bytes.{if_some}
use Rattle.object.specs.Header.{strip}
use Rattle.actor.specs.Person.{first_of}
use Rattle.feed.specs.declared.Told.{Told}
use Rattle.feed.specs.declared.Told.TheVariants.{Nothing, Millimetres, Unreadable, Twice}
use Rattle.feed.specs.declared.Lines.{Lines}
use Rattle.feed.specs.Feed.{cone_start, bed_start, millimetres, told_by}

-- a number that was read
abbrev pub number_read : Option ℕ → Option ℕ
number_read None = None
number_read (Some v) = Some v

-- the length of the line in front
unfoldable pub line_length : List ℕ → ℕ
line_length b = if_some (first_of 10 b) (length b) (λ k. k)

-- one line more with the same start
abbrev pub another : Told → List ℕ → Told
another Nothing t = told_by (millimetres t)
another (Millimetres n) t = Twice
another Unreadable t = Twice
another Twice t = Twice

-- one line more, which may have the start
unfoldable pub with_line : Told → List ℕ → List ℕ → Told
with_line told start l = if_some (strip start l) told (λ t. another told t)

-- the same for both starts, and for one line after the other
unfoldable pub pass_line : Lines → List ℕ → Lines
pass_line s l = record { cone = with_line s.cone cone_start l; bed = with_line s.bed bed_start l }

unfoldable pub pass_lines : Lines → List (List ℕ) → Lines
pass_lines s [] = s
pass_lines s (l ∷ ls) = pass_lines (pass_line s l) ls

abbrev pub nothing_yet : Lines
nothing_yet = record { cone = Nothing; bed = Nothing }
