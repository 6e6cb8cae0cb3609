-- One commit read whole, as painting reads it: `read` of the walk, told by what the two files have. Assumes nothing.
use Rattle.object.specs.declared.HeaderError.TheVariants.{Bad, Crowded}
use Rattle.std.specs.Prelude.{ℕ, ◌≡◌, List, length, None, Option, Some, Ok, Err}
use Rattle.hash.specs.Bytes.{Id}
use Rattle.object.specs.Header.{header}
use Rattle.object.specs.Ids.{padded}
use Rattle.object.specs.Read.{reading_of, Reading}
use Rattle.object.specs.declared.ObjectId.{ObjectId}
use Rattle.odb.specs.Lookup.{part_of}
use Rattle.odb.specs.declared.Located.TheVariants.{Body as BodyAt}
use Rattle.commitgraph.specs.Graph.{level_in, seconds_in, parents_in, parent_in}
use Rattle.commitgraph.specs.declared.Layout.{Layout}
use Rattle.commit.specs.Find.{found_in, FindsCommit}
use Rattle.commit.specs.declared.Either.{Either}
use Rattle.commit.specs.declared.Either.TheVariants.{CachedCommit, CommitRefIter, Absent}
use Rattle.walk.specs.Lookup.{pair_of, no_generation, Read, fail, good, read}
use Rattle.walk.specs.declared.GenThenTime.{GenThenTime}
use Rattle.walk.specs.declared.Refusal.TheVariants.{CommitNotFound, CommitUnreadable, TooManyParents}
use Rattle.reading.specs.declared.Commit.{Commit}
use Rattle.reading.specs.declared.Commit.TheVariants.{Row, Body, Failed}
use Rattle.reading.specs.Files.{layout_under, world_under}
use Rattle.reading.specs.Row.{row_parent}
use Rattle.reading.specs.Body.{no_bytes, parent_id_at}

-- the pair of the row at position p
abbrev pub pair_in : ℕ → List ℕ → Layout → ℕ → GenThenTime
pair_in w g l p = record { generation = record { 0 = level_in w g l p }; time = record { 0 = seconds_in w g l p } }

-- the commit of that row, given its pair and its parent list: "a corrupt list (here 10)"
abbrev pub row_commit : ℕ → GenThenTime → Option (List ℕ) → Commit
row_commit p q None = Failed CommitUnreadable
row_commit p q (Some ps) = Row p (length ps) q

-- the commit of the body from a to e, given what its header reads as: "unreadable (10) or crowded (11)"; "Without a graph row the level
-- is 0xFFFFFFFF"
abbrev pub body_commit : ℕ → ℕ → Reading → Commit
body_commit a e (Ok r) = Body a e r.parents (record { generation = record { 0 = no_generation }; time = r.stamp.seconds })
body_commit a e (Err Bad) = Failed CommitUnreadable
body_commit a e (Err Crowded) = Failed TooManyParents

-- a commit that was read has n parents and the pair q
pub record Has (n : ℕ) (q : GenThenTime) (d : Read) : Type 0 where
  pub parents : List Id
  pub is : d ≡ good parents (pair_of q)
  pub count : n ≡ length parents

-- what an answer says of a commit that was read
abbrev pub Tells : Commit → Read → Type 0
Tells (Row p n q) d = Has n q d
Tells (Body a e n q) d = Has n q d
Tells (Failed r) d = d ≡ fail r

-- an answer names the row or the body that `find` finds
abbrev pub Names : Commit → Either → Type 0
Names (Row p n q) e = (a : ℕ) × (b : ℕ) × (e ≡ CachedCommit p a b)
Names (Body a b n q) e = e ≡ CommitRefIter a b
Names (Failed r) e = Unit {0}

-- r is what is read of the commit x: so in good files of a commit that `read_commit` gave
pub record IsRead (w : ℕ) (c : Option Layout) (g s : List ℕ) (x : Id) (r : Commit) : Type 0 where
  pub tells : Tells r (read (world_under w c g s) x)
  pub names : Names r (found_in w c g s x)

-- how many parents an answer has
abbrev pub parent_count : Commit → ℕ
parent_count (Row p n q) = n
parent_count (Body a e n q) = n
parent_count (Failed r) = 0

-- the commit of what `find` found, on any bytes: "absent (9)"
abbrev pub commit_at : ℕ → Option Layout → List ℕ → List ℕ → Either → Commit
commit_at w c g s (CachedCommit p a e) = row_commit p (pair_in w g (layout_under c) p) (parents_in w g (layout_under c) p)
commit_at w c g s (CommitRefIter a e) = body_commit a e (reading_of (header w (part_of s (BodyAt a e))))
commit_at w c g s Absent = Failed CommitNotFound

-- what `read_commit` answers for the commit x: what `find` found, read
pub record ReadsCommit (w : ℕ) (c : Option Layout) (g s : List ℕ) (x : Id) (r : Commit) : Type 0 where
  pub found : Either
  pub finds : FindsCommit w c g s x found
  pub is : r ≡ commit_at w c g s found

-- no position in the graph file and no number of an entry
abbrev pub nowhere : ℕ
nowhere = 4294967295

-- where parent k of a commit that was read is looked at first: a row names its parents by their positions
abbrev pub place_of : ℕ → Option Layout → List ℕ → Commit → ℕ → ℕ
place_of w c g (Row p n q) k = parent_in w g (layout_under c) p k
place_of w c g (Body a e n q) k = nowhere
place_of w c g (Failed r) k = nowhere

-- parent k of a commit that was read, on any bytes: of its row, of its body, or zeros where it could not be read
abbrev pub ParentAt : ℕ → Option Layout → List ℕ → List ℕ → Commit → ℕ → Id → Type 0
ParentAt w c g s (Row p n q) k x = x ≡ padded (row_parent w g (layout_under c) p k)
ParentAt w c g s (Body a e n q) k x = x ≡ parent_id_at w (part_of s (BodyAt a e)) k
ParentAt w c g s (Failed r) k x = x ≡ no_bytes

-- what `parent_of` answers
pub record GivesParent (w : ℕ) (c : Option Layout) (g s : List ℕ) (m : Commit) (k : ℕ) (r : ObjectId) : Type 0 where
  pub is : ParentAt w c g s m k r.bytes
