-- Settings from numbers, and what the functions that set an answer down promise. Assumes nothing.
use Rattle.std.specs.Prelude.{ℕ, ◌≡◌, cond, List, set, eqb, ℤ, Option}
use Rattle.commitgraph.specs.declared.Level.{Level}
use Rattle.date.specs.declared.Seconds.{Seconds}
use Rattle.hash.specs.Bytes.{Id, set_down}
use Rattle.walk.specs.declared.Settings.{Settings}
use Rattle.walk.specs.declared.Sorting.{Sorting}
use Rattle.walk.specs.declared.Sorting.TheVariants.{BreadthFirst, ByCommitTime, ByCommitTimeCutoff}
use Rattle.walk.specs.declared.CommitTimeOrder.{CommitTimeOrder}
use Rattle.walk.specs.declared.CommitTimeOrder.TheVariants.{NewestFirst, OldestFirst}
use Rattle.walk.specs.declared.Parents.{Parents}
use Rattle.walk.specs.declared.Parents.TheVariants.{All, First}
use Rattle.walk.specs.declared.OpenAnswer.{OpenAnswer}
use Rattle.walk.specs.declared.Outcome.TheVariants.{Commit}
use Rattle.walk.specs.Given.{Given, outcome_number, open_number, seconds_value, zone_value}
use Rattle.object.specs.Ids.{id_in, padded}
use Rattle.wire.specs.Words.{kind_of, open_words, answer_words}

-- ---- settings

-- a time order; 0 says that there is no cutoff, any other number that there is one
abbrev pub time_order : CommitTimeOrder → ℕ → ℤ → Sorting
time_order o limited cutoff = cond (eqb limited 0) (ByCommitTime o) (ByCommitTimeCutoff o (record { 0 = cutoff }))

-- 1 is newest first, 2 oldest first, any other number breadth order, which has no cutoff
abbrev pub sorting_of : ℕ → ℕ → ℤ → Sorting
sorting_of sorting limited cutoff =
    cond (eqb sorting 1) (time_order NewestFirst limited cutoff) (cond (eqb sorting 2) (time_order OldestFirst limited cutoff) BreadthFirst)

-- 0 is All, any other number First
abbrev pub parents_of : ℕ → Parents
parents_of first = cond (eqb first 0) All First

-- and the kind of ids by their width
unfoldable pub settings_of : ℕ → ℕ → ℕ → ℤ → ℕ → Settings
settings_of width sorting limited cutoff first = record { sorting = sorting_of sorting limited cutoff; parents = parents_of first; kind = kind_of width }

-- ---- answers set down

pub record PutsOpenAnswer (a : OpenAnswer) (numbers numbers' : List ℕ) (n : ℕ) : Type 0 where
  pub result : n ≡ open_number a.outcome
  pub numbers_are : numbers' ≡ set_down numbers 0 (open_words a)

-- the id in its width
pub record PutsAnswer (w : ℕ) (a : Given) (id id' numbers numbers' : List ℕ) (seconds seconds' : List ℤ) (n : ℕ) : Type 0 where
  pub result : n ≡ outcome_number a.outcome
  pub id-is : id' ≡ set_down id 0 (id_in w a.info.id)
  pub numbers_are : numbers' ≡ set_down numbers 0 (answer_words a)
  pub seconds_are : seconds' ≡ set (set seconds 0 (seconds_value a.info.time)) 1 (zone_value a.info.zone)

-- the answer of a commit x that is handed out
abbrev pub commit_given : Id → ℕ → Option Level → Option Seconds → Option ℤ → ℕ → ℕ → ℕ → Given
commit_given x parents g t z admitted struck waiting = record {
  outcome = Commit;
  info = record { id = padded x; parents = parents; generation = g; time = t; zone = z };
  admitted = admitted;
  struck = struck;
  waiting = waiting;
}
