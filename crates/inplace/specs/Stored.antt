-- What a next call in place promises of a commit from the store, where no commit-graph file is lent: the first of the queue leaves, its body's parents are visited, and
-- its answer and what waits then are set down. Assumes nothing.
use Rattle.std.specs.Prelude.{ℕ, ◌≡◌, List, ℤ, Option}
use Rattle.hash.specs.Bytes.{width_of}
use Rattle.date.specs.declared.Seconds.{Seconds}
use Rattle.object.specs.Header.{Header, header}
use Rattle.object.specs.Ids.{id_in}
use Rattle.walk.specs.declared.Settings.{Settings}
use Rattle.revwalk.specs.declared.queue.Popped.{Popped}
use Rattle.state.specs.declared.Record.{Record}
use Rattle.state.specs.Steps.{mem}
use Rattle.bodyvisit.specs.declared.body.BodyVisited.{BodyVisited}
use Rattle.bodyvisit.specs.Body.{VisitsBody}
use Rattle.links.specs.Leaving.{Leaves, without}
use Rattle.visit.specs.declared.next.Taken.{Taken}
use Rattle.visit.specs.Taking.{time_given, EndsBody}
use Rattle.traverse.specs.Contract.{Lent}
use Rattle.wire.specs.Words.{PutsWaiting}
use Rattle.wire.specs.Numbers.{PutsAnswer}
use Rattle.inplace.specs.InPlace.{not_made_number}

-- the answer after the parents of a body with the header h, of the commit with the id x, is set down, with the result n
pub record PutsEnd (w : ℕ) (r : Record) (seen : BodyVisited) (h : Header) (x : List ℕ) (t : Option Seconds) (id id' numbers numbers' : List ℕ) (seconds seconds' : List ℤ) (n : ℕ) : Type 0 where
  pub taken : Taken
  pub ends : EndsBody r seen h (id_in w x) t taken
  pub puts : PutsAnswer w taken.answer id id' numbers numbers' seconds seconds' n

-- the first of the queue, which has the id x, has left it, and its body d was taken
pub record Took (excluded : List ℕ) (s : Settings) (store d : List ℕ) (r : Record) (x : List ℕ) (m m' : Lent) (words words' id id' numbers numbers' : List ℕ) (seconds seconds' : List ℤ) (n : ℕ) : Type 0 where
  pub line₁ : List ℕ
  pub popped : Popped
  pub time : Seconds
  pub seen : BodyVisited
  pub leaves : Leaves r m.memory.times m.memory.line line₁ popped time
  pub visits : VisitsBody excluded s store (header (width_of s.kind) d) r (without r popped) (mem m.memory.names m.memory.marks m.memory.times line₁) m'.memory m.parents m'.parents seen
  pub answer : PutsEnd (width_of s.kind) r seen (header (width_of s.kind) d) x (time_given r.queue.timed time) id id' numbers numbers' seconds seconds' n
  pub waits : PutsWaiting seen.after words words'

-- take_body, with its result n: where nothing waits, nothing is altered
pub record TakesBody (excluded : List ℕ) (s : Settings) (store d : List ℕ) (r : Record) (x : List ℕ) (m m' : Lent) (words words' id id' numbers numbers' : List ℕ) (seconds seconds' : List ℤ) (n : ℕ) : Type 0 where
  pub still : n ≡ not_made_number → (m' ≡ m) × (words' ≡ words) × (id' ≡ id) × (numbers' ≡ numbers) × (seconds' ≡ seconds)
  pub took : (n ≡ not_made_number → ⊥) → Took excluded s store d r x m m' words words' id id' numbers numbers' seconds seconds' n
