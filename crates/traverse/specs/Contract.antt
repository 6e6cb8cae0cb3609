-- What an opening and a next call promise (document 01: Opening, A next call, and what follows its table). Assumes nothing.
use Rattle.std.specs.Prelude.{ℕ, suc, ◌≤◌, ◌≡◌, ◌⊎◌, ℤ, false, List, [], length, None, Option}
use Rattle.hash.specs.Bytes.{Id, width_of}
use Rattle.object.specs.Header.{most}
use Rattle.walk.specs.declared.Settings.{Settings}
use Rattle.walk.specs.declared.Refusal.{Refusal}
use Rattle.walk.specs.declared.Refusal.TheVariants.{CommitNotFound, TooManyParents, Closed}
use Rattle.walk.specs.declared.Outcome.TheVariants.{Refused}
use Rattle.walk.specs.State.{State}
use Rattle.walk.specs.Opening.{Input, Lengths, room_for, open_walk, closed, opened}
use Rattle.walk.specs.Next.{Answer, end, refused, handed}
use Rattle.walk.specs.Calls.{state_after, answer_at_call, shut}
use Rattle.walk.specs.Reach.{Mem}
use Rattle.walk.specs.AnyInput.{OfCall}
use Rattle.walk.specs.Given.{Given, given, parents_given, open_given}
use Rattle.state.specs.declared.Record.{Record}
use Rattle.state.specs.Reads.{Memory, Reads, closed_record}
use Rattle.state.specs.Shapes.{shape_of}
use Rattle.traverse.specs.declared.Opened.{Opened}
use Rattle.traverse.specs.declared.Out.{Out}

-- what every call is lent beside its memory: the opening's files, lists and settings, but for the tips, which no call reads
pub record Files : Type 0 where
  pub store : List ℕ
  pub graph : List ℕ
  pub hidden : List ℕ
  pub excluded : List ℕ
  pub settings : Settings

abbrev pub input_with : Files → List ℕ → Input
input_with f tips = record {
  store = f.store;
  graph = f.graph;
  tips = tips;
  hidden = f.hidden;
  excluded = f.excluded;
  settings = f.settings;
}

-- the lent buffers: those that a state stands in; levels, which painting uses, and calls after it for positions in the graph file; and parents
pub record Lent : Type 0 where
  pub memory : Memory
  pub levels : List ℕ
  pub parents : List ℕ

unfoldable pub lengths_of : Lent → Lengths
lengths_of m = record {
  names = length m.memory.names;
  marks = length m.memory.marks;
  levels = length m.levels;
  times = length m.memory.times;
  line = length m.memory.line;
  parents = length m.parents;
}

-- ---- an opening

-- "1 to 8 return a closed record and alter no lent byte"; an accepted opening leaves memory that reads as the walk's first state, and
-- parents as it was
pub record OpenSays (i : Input) (m : Lent) (o : Opened) (m' : Lent) : Type 0 where
  pub answer : o.answer ≡ open_given (open_walk i (room_for i (lengths_of m)))
  pub refused_open : (r : Refusal) → open_walk i (room_for i (lengths_of m)) ≡ closed r → (o.record ≡ closed_record) × (m' ≡ m)
  pub accepted_open : (st : State) → open_walk i (room_for i (lengths_of m)) ≡ opened st → Reads o.record m'.memory (shape_of i) (state_after i 0)
  pub same-lengths : lengths_of m' ≡ lengths_of m
  pub same-parents : m'.parents ≡ m.parents

-- ---- a next call

-- the answer to a closed record, or to memory that is seen to be touched: 12, with zeros
abbrev pub closed_answer : Given
closed_answer = given shut

-- "On touched memory … a call gives some answer of this paper": a commit, the end, or a refusal 9 to 12, with document 01's zeros and as
-- many parents as that answer can have; the ids that it counts, each as wide as the kind says, stand at the start of parents, and "parents past the ids
-- given keeps its bytes"
pub record OfPaper (width : ℕ) (a : Given) (before after : List ℕ) : Type 0 where
  pub model : Answer
  pub is : a ≡ given model
  pub kind : (r : Refusal) → model.kind ≡ refused r → OfCall r ⊎ (model ≡ shut)
  pub bare-end : model.kind ≡ end → model.parents ≡ []
  -- card 7: the zone is none "in a refusal or end"
  pub end-zone : model.kind ≡ end → model.zone ≡ None
  pub refused-zone : (r : Refusal) → model.kind ≡ refused r → model.zone ≡ None
  -- 9 comes before any line is read; 11 when 256 ids are read, or from painting, which gives none
  pub bare-lost : model.kind ≡ refused CommitNotFound → model.parents ≡ []
  pub crowded : model.kind ≡ refused TooManyParents → (length model.parents ≡ most) ⊎ (model.parents ≡ [])
  pub few : length model.parents ≤ most
  pub id-wide : (x : Id) (g : Option ℕ) (t : Option ℤ) → model.kind ≡ handed x g t → length x ≡ width
  pub wide : (x : Id) → Mem x model.parents → length x ≡ width
  pub set_down : after ≡ parents_given model before

-- what a call promises for the files f, the record r and the memory m, with what it gives back o and the memory after it m'
pub record NextSays (f : Files) (r : Record) (m : Lent) (o : Out) (m' : Lent) : Type 0 where
  -- on untouched memory: the walk's answer in every field, its parents at the start of the buffer and all else there as it was, and
  -- memory that reads as the walk's next state
  pub opened-call : (tips : List ℕ) (k : ℕ) (st : State) → open_walk (input_with f tips) (room_for (input_with f tips) (lengths_of m)) ≡ opened st
      → Reads r m.memory (shape_of (input_with f tips)) (state_after (input_with f tips) k)
      → (o.answer ≡ given (answer_at_call (input_with f tips) k))
      × (m'.parents ≡ parents_given (answer_at_call (input_with f tips) k) m.parents)
      × Reads o.record m'.memory (shape_of (input_with f tips)) (state_after (input_with f tips) (suc k))
  -- "12 … comes for every closed record", and alters nothing
  pub closed-call : r.live ≡ false → o.answer ≡ closed_answer
  pub twelve : o.answer.outcome ≡ Refused Closed → (o.record ≡ r) × (m' ≡ m) × (o.answer ≡ closed_answer)
  -- always
  pub of_paper : OfPaper (width_of f.settings.kind) o.answer m.parents m'.parents
  pub same-lengths : lengths_of m' ≡ lengths_of m
