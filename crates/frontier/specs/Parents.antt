-- The parents of a commit that was read before: its row or its body is found again, and of it only the parents are asked. Assumes nothing.
use Rattle.std.specs.Prelude.{ℕ, ◌<◌, ◌≡◌, List, [], length, drop, get_or, pos, Option}
use Rattle.commitgraph.specs.declared.Layout.{Layout}
use Rattle.hash.specs.Bytes.{Id}
use Rattle.object.specs.Header.{tree_size, parent_lines, most}
use Rattle.object.specs.Ids.{id_in}
use Rattle.object.specs.declared.ObjectId.{ObjectId}
use Rattle.odb.specs.Lookup.{part_of}
use Rattle.odb.specs.declared.Located.TheVariants.{Body as BodyAt}
use Rattle.commitgraph.specs.Graph.{parents_in}
use Rattle.commit.specs.Find.{FindsCommit}
use Rattle.commit.specs.declared.Either.{Either}
use Rattle.commit.specs.declared.Either.TheVariants.{CachedCommit, CommitRefIter, Absent}
use Rattle.walk.specs.Lookup.{read, parents_of}
use Rattle.walk.specs.declared.GenThenTime.{GenThenTime}
use Rattle.walk.specs.declared.Refusal.TheVariants.{CommitNotFound}
use Rattle.reading.specs.Files.{layout_under, world_under}
use Rattle.reading.specs.Whole.{row_commit, parent_count, GivesParent}
use Rattle.reading.specs.declared.Commit.{Commit}
use Rattle.reading.specs.declared.Commit.TheVariants.{Body, Failed}

-- a pair that says nothing
abbrev pub no_pair : GenThenTime
no_pair = record { generation = record { 0 = 0 }; time = record { 0 = pos 0 } }

-- how many parent lines a body has, if its tree line is good
abbrev pub lines_in : ℕ → List ℕ → ℕ
lines_in w b = length (parent_lines w most (drop (tree_size w) b)).ids

-- the commit of what `find` found, on any bytes, without its pair
abbrev pub parents_at : ℕ → Option Layout → List ℕ → List ℕ → Either → Commit
parents_at w c g s (CachedCommit p a e) = row_commit p no_pair (parents_in w g (layout_under c) p)
parents_at w c g s (CommitRefIter a e) = Body a e (lines_in w (part_of s (BodyAt a e))) no_pair
parents_at w c g s Absent = Failed CommitNotFound

-- what `read_parents` answers for the commit x
pub record ReadsParents (w : ℕ) (c : Option Layout) (g s : List ℕ) (x : Id) (r : Commit) : Type 0 where
  pub found : Either
  pub finds : FindsCommit w c g s x found
  pub is : r ≡ parents_at w c g s found

-- an answer tells the parents of the commit x: how many they are, and each
pub record HasParents (w : ℕ) (c : Option Layout) (g s : List ℕ) (x : Id) (d : Commit) : Type 0 where
  pub count : parent_count d ≡ length (parents_of (read (world_under w c g s) x))
  pub each : (k : ℕ) (r : ObjectId) → k < parent_count d → GivesParent w c g s d k r → id_in w r.bytes ≡ get_or (parents_of (read (world_under w c g s) x)) k []
