-- What a next call in place promises: where it is made, what a next call says, with its answer and its record set down; where not, that nothing is altered.
-- Assumes nothing.
use Rattle.std.specs.Prelude.{ℕ, ◌≤◌, ◌<◌, ◌≡◌, Bool, true, false, List, length, ℤ, None, Some}
use Rattle.hash.specs.Bytes.{Id, set_down, width_of}
use Rattle.date.specs.declared.Seconds.{Seconds}
use Rattle.commitgraph.specs.Graph.{id_in}
use Rattle.commitgraph.specs.declared.Layout.{Layout}
use Rattle.commitgraph.specs.declared.Level.{Level}
use Rattle.walk.specs.declared.Settings.{Settings}
use Rattle.walk.specs.Opening.{Lengths}
use Rattle.walk.specs.Next.{level_shown}
use Rattle.walk.specs.Given.{Given, level_given}
use Rattle.state.specs.declared.Record.{Record}
use Rattle.state.specs.declared.Waiting.{Waiting}
use Rattle.rowvisit.specs.Plain.{PlainBy}
use Rattle.visit.specs.Taking.{time_given}
use Rattle.traverse.specs.declared.Out.{Out}
use Rattle.traverse.specs.Contract.{Lent, NextSays}
use Rattle.traverse.specs.Next.{files_lent, Whole}
use Rattle.wire.specs.Words.{record_words, record_of, words_of, PutsRecord, PutsWaiting}
use Rattle.wire.specs.Numbers.{commit_given, PutsAnswer}

-- position p of the file has the id x, which is as wide as its ids
pub record StandsAt (w : ℕ) (g : List ℕ) (l : Layout) (p : ℕ) (x : Id) : Type 0 where
  pub low : p < l.count
  pub same : id_in w g l p ≡ x
  pub wide : length x ≡ w

-- the answer of the commit x, of which k parents were visited, with the level c and the seconds t, where w wait then
abbrev pub answer_of : Record → Id → ℕ → Level → Seconds → Waiting → Given
answer_of r x k c t w = commit_given x k (level_given (level_shown c.0)) (time_given w.queue.timed t) None w.admitted r.struck w.queue.count

-- the first of the queue, from its row at position p of the file: of a row that is not plain nothing is altered; of a plain one the parents are visited, and its
-- answer and what waits then are set down
pub record TakesRow (excluded : List ℕ) (s : Settings) (g : List ℕ) (p : ℕ) (r : Record) (m m' : Lent) (words words' id id' numbers numbers' : List ℕ) (seconds seconds' : List ℤ) (a : Bool) : Type 0 where
  pub still : a ≡ false → (m' ≡ m) × (words' ≡ words) × (id' ≡ id) × (numbers' ≡ numbers) × (seconds' ≡ seconds)
  pub taken : a ≡ true → (w : Waiting) × (k : ℕ) × (c : Level) × (t : Seconds)
      × PlainBy (Some (record { after = w; parents = k; level = c; seconds = t })) excluded s g r.fixed.layout p r m.memory.names m.memory.marks m.memory.times m.memory.line m'.memory m.levels m'.levels m.parents m'.parents
      × PutsAnswer (width_of s.kind) (answer_of r (id_in (width_of s.kind) g r.fixed.layout p) k c t w) id id' numbers numbers' seconds seconds' 0
      × PutsWaiting w words words'

-- a call may be made in place
pub record CanGo (r : Record) (words : List ℕ) (s : Settings) (l : Lengths) : Type 0 where
  pub answer : Bool
  pub whole : Whole s.kind r l answer
  pub is_whole : answer ≡ true
  pub painted : r.painted ≡ true
  pub kept : r.kept ≡ true
  pub long : record_words ≤ length words
  pub plain : set_down words 0 (words_of (record_of words)) ≡ words

-- the result of a call that is not made, which is none of a call's own
abbrev pub not_made_number : ℕ
not_made_number = 102

-- with the result n and the record that the words stand for, whatever the hidden tips are, which such a call does not ask for
pub record GoesInPlace (store g excluded : List ℕ) (s : Settings) (m m' : Lent) (words words' id id' numbers numbers' : List ℕ) (seconds seconds' : List ℤ) (n : ℕ) : Type 0 where
  pub still : n ≡ not_made_number → (m' ≡ m) × (words' ≡ words) × (id' ≡ id) × (numbers' ≡ numbers) × (seconds' ≡ seconds)
  pub made : (n ≡ not_made_number → ⊥) → (hidden : List ℕ) → (o : Out) × NextSays (files_lent store g hidden excluded s) (record_of words) m o m'
      × PutsAnswer (width_of s.kind) o.answer id id' numbers numbers' seconds seconds' n × PutsRecord n o.record words words'
