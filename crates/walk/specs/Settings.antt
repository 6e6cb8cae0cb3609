-- The settings of a walk (document 01: `Sorting` and `Parents`): which order the queue keeps, what a cutoff turns away, which parents
-- are followed. Assumes nothing.
use Rattle.std.specs.Prelude.{Bool, true, false, cond, not, ◌&&◌, List, take, ℤ, None, Option, Some}
use Rattle.std.specs.Int.Signed.{lt_z}
use Rattle.walk.specs.declared.Settings.{Settings}
use Rattle.walk.specs.declared.Sorting.{Sorting}
use Rattle.walk.specs.declared.Sorting.TheVariants.{BreadthFirst, ByCommitTime, ByCommitTimeCutoff}
use Rattle.walk.specs.declared.CommitTimeOrder.{CommitTimeOrder}
use Rattle.walk.specs.declared.CommitTimeOrder.TheVariants.{NewestFirst, OldestFirst}
use Rattle.walk.specs.declared.Parents.TheVariants.{All, First}

-- a time order, with or without a cutoff
unfoldable pub timed : Sorting → Bool
timed BreadthFirst = false
timed (ByCommitTime o) = true
timed (ByCommitTimeCutoff o c) = true

unfoldable pub cutoff_of : Sorting → Option ℤ
cutoff_of BreadthFirst = None
cutoff_of (ByCommitTime o) = None
cutoff_of (ByCommitTimeCutoff o c) = Some c.0

-- "seconds ≥ cutoff", where there is a cutoff
unfoldable pub not_before : Option ℤ → ℤ → Bool
not_before None t = true
not_before (Some c) t = not (lt_z t c)

-- the mode First
unfoldable pub only_first : Settings → Bool
only_first s = elim s.parents [ All ↦ false | First ↦ true ]

-- "a time order that isn't overridden by First"
unfoldable pub by_time : Settings → Bool
by_time s = timed s.sorting && not (only_first s)

-- whether an order takes the newest first
unfoldable pub is_newest : CommitTimeOrder → Bool
is_newest NewestFirst = true
is_newest OldestFirst = false

unfoldable pub newest_first : Sorting → Bool
newest_first BreadthFirst = false
newest_first (ByCommitTime o) = is_newest o
newest_first (ByCommitTimeCutoff o c) = is_newest o

-- "time order [takes] the newest or oldest": which of two numbers of seconds is taken first
unfoldable pub taken_before : CommitTimeOrder → ℤ → ℤ → Bool
taken_before NewestFirst a b = lt_z b a
taken_before OldestFirst a b = lt_z a b

unfoldable pub sooner : Sorting → ℤ → ℤ → Bool
sooner BreadthFirst a b = false
sooner (ByCommitTime o) a b = taken_before o a b
sooner (ByCommitTimeCutoff o c) a b = taken_before o a b

-- whether a commit queued with a seconds leaves the queue before one that already waits with b: in breadth order and under First never
unfoldable pub goes_before : Settings → ℤ → ℤ → Bool
goes_before s a b = cond (by_time s) (sooner s.sorting a b) false

-- "the mode follows it": all parents; "Under First only one parent"
unfoldable pub followed {ℓ} : {A : Type ℓ} → Settings → List A → List A
followed s l = cond (only_first s) (take 1 l) l
