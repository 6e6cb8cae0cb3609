-- Painting over a list of commits: `mark_all` and `pass` of the walk's painting, told of the lent memory. Assumes nothing.
use Rattle.std.specs.Prelude.{ℕ, ◌+◌, ◌-◌, ◌≤◌, ◌<◌, ◌≡◌, true, false, length, take, Option}
use Rattle.commitgraph.specs.declared.Layout.{Layout}
use mathlib.Core.List.{List, map, Memᴰ}
use Rattle.std.proofs.Math.Seq.{slice}
use Rattle.hash.specs.Bytes.{Id}
use Rattle.hashtable.specs.Table.{id_of, live_at}
use Rattle.revwalk.specs.Order.{In}
use Rattle.pending.specs.declared.Pending.{Pending}
use Rattle.walk.specs.Lookup.{World, read, parents_of}
use Rattle.walk.specs.Painting.{Paint, Painting, Marks, mark_all, pass}
use Rattle.reading.specs.Files.{world_under}
use Rattle.reading.specs.declared.Commit.{Commit}
use Rattle.frontier.specs.Bits.{is_painted, marks_of}
use Rattle.frontier.specs.Paint.{Marked, Lent, Files, PaintReads, Named, Short, Ends}
use Rattle.frontier.specs.Parents.{HasParents}

-- a part of painting over a list of commits
abbrev pub Steps : Type 0
Steps = World → Marks → List Id → Paint → Painting

-- the steps for the commits xs may be taken: there is room for each of them
pub record MayTake (width : ℕ) (steps : Steps) (w : World) (cap : ℕ) (u : List Id) (m : Lent) (p : Pending) (xs : List Id) (bits : ℕ) (st : Paint) : Type 0 where
  pub reads : PaintReads width w cap m p st
  pub named : Named width cap u m
  pub in_u : (x : Id) → Memᴰ x xs → Memᴰ x u
  pub some-mark : is_painted bits ≡ true
  pub room : (i : ℕ) → Short (p.end - p.base) (steps w (marks_of bits) (take i xs) st)

-- the steps are taken for the commits xs
pub record TakesAll (width : ℕ) (steps : Steps) (c : Option Layout) (g s : List ℕ) (cap : ℕ) (m m' : Lent) (p : Pending) (xs : List Id) (bits : ℕ) (r : Marked) : Type 0 where
  pub right : Files width c g s → (u : List Id) (st : Paint) → MayTake width steps (world_under width c g s) cap u m p xs bits st
      → Ends width (world_under width c g s) cap u p m m' r (steps (world_under width c g s) (marks_of bits) xs st)

-- ---- slots that stand in the line

-- the ids of the n slots in line[from .. from + n)
abbrev pub ids_in : ℕ → Lent → ℕ → ℕ → List Id
ids_in width m from n = map (id_of width m.names) (slice from (from + n) m.line)

-- the slots stand below the queue's memory, and each is taken
pub record RunBelow (cap : ℕ) (m : Lent) (p : Pending) (from n : ℕ) : Type 0 where
  pub fits : from + n ≤ p.base
  pub inside : from + n ≤ length m.line
  pub taken : (s : ℕ) → In s (slice from (from + n) m.line) → (s < cap) × (live_at false m.marks s ≡ true)

-- what `mark_run` does: `mark_all`
pub record MarksRun (width : ℕ) (c : Option Layout) (g s : List ℕ) (cap : ℕ) (m m' : Lent) (p : Pending) (from n bits : ℕ) (r : Marked) : Type 0 where
  pub right : Files width c g s → (u : List Id) (st : Paint) → RunBelow cap m p from n → MayTake width mark_all (world_under width c g s) cap u m p (ids_in width m from n) bits st
      → Ends width (world_under width c g s) cap u p m m' r (mark_all (world_under width c g s) (marks_of bits) (ids_in width m from n) st)

-- ---- the parents of a commit

-- what `pass_to_parents` does with an answer d that tells the parents of the commit y: `pass`
pub record PassesAll (width : ℕ) (c : Option Layout) (g s : List ℕ) (cap : ℕ) (m m' : Lent) (p : Pending) (d : Commit) (bits : ℕ) (r : Marked) : Type 0 where
  pub right : Files width c g s → (y : Id) → HasParents width c g s y d → (u : List Id) (st : Paint)
      → MayTake width pass (world_under width c g s) cap u m p (parents_of (read (world_under width c g s) y)) bits st
      → Ends width (world_under width c g s) cap u p m m' r (pass (world_under width c g s) (marks_of bits) (parents_of (read (world_under width c g s) y)) st)
