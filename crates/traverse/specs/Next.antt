-- What the functions of a next call promise (document 01: A next call, and what follows its table). Assumes nothing.
use Rattle.std.specs.Prelude.{None, ℕ, suc, ◌≤◌, ◌≡◌, Bool, true, false, List, length}
use Rattle.walk.specs.declared.Settings.{Settings}
use Rattle.walk.specs.declared.Refusal.TheVariants.{Closed}
use Rattle.walk.specs.declared.Outcome.TheVariants.{End, Refused}
use Rattle.walk.specs.State.{State}
use Rattle.hash.specs.declared.Kind.{Kind}
use Rattle.walk.specs.Opening.{parents_room, Input, Lengths, P, room_for, open_walk, opened}
use Rattle.walk.specs.Calls.{state_after, answer_at_call}
use Rattle.walk.specs.Given.{no_id, given, parents_given}
use Rattle.state.specs.declared.Record.{Record}
use Rattle.state.specs.Reads.{Reads}
use Rattle.state.specs.Shapes.{shape_of}
use Rattle.visit.specs.declared.next.Taken.{Taken}
use Rattle.visit.specs.Taking.{gave}
use Rattle.painting.specs.declared.PaintError.{PaintError}
use Rattle.painting.specs.declared.PaintError.TheVariants as painting
use Rattle.traverse.specs.declared.Out.{Out}
use Rattle.traverse.specs.Contract.{Files, input_with, Lent, lengths_of, closed_answer, OfPaper}
use Rattle.hash.specs.Bytes.{width_of}

abbrev pub files_lent : List ℕ → List ℕ → List ℕ → List ℕ → Settings → Files
files_lent store graph hidden excluded settings = record { store = store; graph = graph; hidden = hidden; excluded = excluded; settings = settings }

-- is_whole, with its answer a: the record is open, and every lent buffer has its size for the record's places, with ids of this kind
pub record Whole (kind : Kind) (r : Record) (l : Lengths) (a : Bool) : Type 0 where
  pub shut : r.live ≡ false → a ≡ false
  pub alive : r.live ≡ true → (i : Input) → i.settings.kind ≡ kind → r.queue.cap ≡ P i → a ≡ room_for i l

-- what a call gives back is this answer, and this record
pub record GivesBack (t : Taken) (o : Out) : Type 0 where
  pub answer : o.answer ≡ t.answer
  pub after : o.record ≡ t.after

-- "12 alters nothing"
abbrev pub shut_with : Record → Taken
shut_with r = record { answer = closed_answer; after = r }

-- what painting that does not go on gives back: its refusal, or the end of the walk
abbrev pub stops : Record → PaintError → Taken
stops r (painting.Refused why r') = gave (Refused why) no_id 0 None None None r'
stops r painting.Touched = gave End no_id 0 None None None r

-- a call that is not closed, with a record that says so of painting: on untouched memory the walk's answer, its parents and its next state;
-- and on any bytes an answer of document 01 other than 12
pub record Goes (painted : Bool) (f : Files) (r : Record) (m : Lent) (o : Out) (m' : Lent) : Type 0 where
  pub opened-call : r.painted ≡ painted → (tips : List ℕ) (k : ℕ) (st : State) → open_walk (input_with f tips) (room_for (input_with f tips) (lengths_of m)) ≡ opened st
      → Reads r m.memory (shape_of (input_with f tips)) (state_after (input_with f tips) k)
      → (o.answer ≡ given (answer_at_call (input_with f tips) k))
      × (m'.parents ≡ parents_given (answer_at_call (input_with f tips) k) m.parents)
      × Reads o.record m'.memory (shape_of (input_with f tips)) (state_after (input_with f tips) (suc k))
  pub not-twelve : o.answer.outcome ≡ Refused Closed → ⊥
  pub of_paper : parents_room (width_of f.settings.kind) ≤ length m.parents → OfPaper (width_of f.settings.kind) o.answer m.parents m'.parents
