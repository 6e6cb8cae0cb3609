-- What the tests of an opening answer, in the words of the walk's opening.
-- Assumes nothing.
use Rattle.std.specs.Prelude.{ℕ, ◌≡◌, true, false, List, [], ◌∷◌, Err, None, Ok, Option, Result, Some}
use Rattle.hash.specs.Bytes.{Id, among}
use Rattle.walk.specs.declared.Settings.{Settings}
use Rattle.walk.specs.declared.Sorting.{Sorting}
use Rattle.walk.specs.declared.Refusal.{Refusal}
use Rattle.walk.specs.declared.Refusal.TheVariants.{TipNotFound, TipUnreadable}
use Rattle.walk.specs.Settings.{timed}
use Rattle.walk.specs.Opening.{Input, Lengths, list_ids, Opening, closed, opened}
use Rattle.date.specs.declared.Seconds.{Seconds}
use Rattle.reading.specs.declared.tip.TipError.{TipError}
use Rattle.reading.specs.declared.tip.TipError.TheVariants.{Missing, Unreadable}
use Rattle.reading.specs.Tip.{ReadsTip}

-- an opening's files, lists and settings, and the lengths of the lent buffers
abbrev pub input_of : List ℕ → List ℕ → List ℕ → List ℕ → List ℕ → Settings → Input
input_of store graph tips hidden excluded settings = record {
  store = store;
  graph = graph;
  tips = tips;
  hidden = hidden;
  excluded = excluded;
  settings = settings;
}

abbrev pub lengths_of : ℕ → ℕ → ℕ → ℕ → ℕ → ℕ → Lengths
lengths_of names marks levels times line parents = record {
  names = names;
  marks = marks;
  levels = levels;
  times = times;
  line = line;
  parents = parents;
}

-- the answer where a test found this fault, or none
abbrev pub checked_of : Option Refusal → Result (Unit {0}) Refusal
checked_of None = (Ok tt)
checked_of (Some r) = Err r

-- the answer where an opening comes to this
abbrev pub checked_by : Opening → Result (Unit {0}) Refusal
checked_by (closed r) = Err r
checked_by (opened st) = (Ok tt)

-- the answer where a tip reads so
abbrev pub fault_of : Result Seconds TipError → Result (Unit {0}) Refusal
fault_of (Ok t) = (Ok tt)
fault_of (Err Missing) = Err TipNotFound
fault_of (Err Unreadable) = Err TipUnreadable

-- 7: "time order, tip not in the book", 8: "its header not good through committer"; "the first tip at fault in list order decides which": what
-- the tips come to in their order, read from any bytes as a store; excluded ones are not read
pub data TestsTips (w : ℕ) (s : List ℕ) (excluded : List Id) : List Id → Result (Unit {0}) Refusal → Type 0 where
  no_tip : TestsTips w s excluded [] (Ok tt)
  skipped : {x : Id} {xs : List Id} {r : Result (Unit {0}) Refusal} → among x excluded ≡ true → TestsTips w s excluded xs r → TestsTips w s excluded (x ∷ xs) r
  good_tip : {x : Id} {xs : List Id} {r : Result (Unit {0}) Refusal} {q : Result Seconds TipError} → among x excluded ≡ false → ReadsTip w s x q → fault_of q ≡ (Ok tt) → TestsTips w s excluded xs r → TestsTips w s excluded (x ∷ xs) r
  at_fault : {x : Id} {xs : List Id} {q : Result Seconds TipError} {why : Refusal} → among x excluded ≡ false → ReadsTip w s x q → fault_of q ≡ Err why → TestsTips w s excluded (x ∷ xs) (Err why)

-- what `check_tips` answers: in breadth order no tip is read
pub record ChecksTips (w : ℕ) (s tips excluded : List ℕ) (o : Sorting) (r : Result (Unit {0}) Refusal) : Type 0 where
  pub untimed : timed o ≡ false → r ≡ (Ok tt)
  pub by-time : timed o ≡ true → TestsTips w s (list_ids w excluded) (list_ids w tips) r
