-- What the driver promises: a walk opened and called to its end, or to the end of its task, and the step folded over its answers. Assumes nothing.
use Rattle.std.specs.Prelude.{ℕ, ◌+◌, ◌≤◌, ◌≡◌, false, List, length, Err, Ok, Result}
use Rattle.walk.specs.declared.Refusal.{Refusal}
use Rattle.walk.specs.State.{State}
use Rattle.walk.specs.Opening.{Input, width_in, P, room_for, open_walk, closed, opened}
use Rattle.walk.specs.Calls.{answers, state_after}
use Rattle.state.specs.declared.Record.{Record}
use Rattle.state.specs.Reads.{Reads, closed_record}
use Rattle.state.specs.Shapes.{shape_of}
use Rattle.traverse.specs.declared.Opened.{Opened}
use Rattle.traverse.specs.Contract.{Files, Lent, input_with, lengths_of}
use Rattle.driver.specs.declared.Driven.{Driven}
use Rattle.tally.specs.declared.Task.{Task}
use Rattle.tally.specs.declared.Tally.{Tally}
use Rattle.tally.specs.Tally.{no_tally, halted, Held, holding, folded, Few}
use Rattle.tally.specs.Terms.{good_part, zeros}
use Rattle.driver.specs.Walked.{parents_left}

-- ---- drive

abbrev pub driven : Result (Unit {0}) Refusal → Tally → Record → Driven
driven outcome t r = record { outcome = outcome; tally = t; «record» = r }

-- k calls of the walk are made and folded: the buffers were h₀'s and parents₀ before them
pub record Made (task : Task) (embargoed terms : List ℕ) (i : Input) (h₀ : Held) (parents₀ : List ℕ) (k : ℕ) (d : Driven) (m : Lent) (ids counts : List ℕ) : Type 0 where
  pub accepted : d.outcome ≡ (Ok tt)
  pub held : holding d.tally ids counts ≡ folded (width_in i) task embargoed terms i.store h₀ (answers i k)
  pub parents : m.parents ≡ parents_left (answers i k) parents₀
  pub reads : Reads d.record m.memory (shape_of i) (state_after i k)

-- of an accepted opening: as many calls as there are, P + 2, unless the task ended before
pub record Drove (task : Task) (embargoed terms : List ℕ) (i : Input) (h₀ : Held) (parents₀ : List ℕ) (d : Driven) (m : Lent) (ids counts : List ℕ) : Type 0 where
  pub calls : ℕ
  pub few : calls ≤ P i + 2
  pub made : Made task embargoed terms i h₀ parents₀ calls d m ids counts
  pub whole : halted task d.tally ≡ false → calls ≡ P i + 2

-- drive: refused as the opening is, with nothing tallied and a closed record, and no lent byte altered; or driven. The counts are set to 0 first
pub record Drives (task : Task) (embargoed terms : List ℕ) (i : Input) (m : Lent) (ids counts : List ℕ) (d : Driven) (m' : Lent) (ids' counts' : List ℕ) : Type 0 where
  pub refused_open : (r : Refusal) → open_walk i (room_for i (lengths_of m)) ≡ closed r
      → (d ≡ driven (Err r) no_tally closed_record) × (m' ≡ m) × (ids' ≡ ids) × (counts' ≡ zeros (length counts))
  pub accepted_open : (st : State) → open_walk i (room_for i (lengths_of m)) ≡ opened st
      → Drove task embargoed (good_part terms) i (holding no_tally ids (zeros (length counts))) m.parents d m' ids' counts'
  -- no number passes that of P + 2 calls
  pub few : Few 1048578 d.tally
  pub same-lengths : lengths_of m' ≡ lengths_of m

-- ---- its parts

-- before any call
abbrev pub before_calls : Opened → Driven
before_calls o = driven o.answer.outcome no_tally o.record

-- after one call more
abbrev pub went_on : Driven → Tally → Record → Driven
went_on d t r = driven d.outcome t r

-- call_all, with at most n calls, for the files f: none are made, or all that the task can need
pub record CallsAll (task : Task) (embargoed terms : List ℕ) (f : Files) (n : ℕ) (d : Driven) (m : Lent) (ids counts : List ℕ) (d' : Driven) (m' : Lent) (ids' counts' : List ℕ) : Type 0 where
  pub no_call : n ≡ 0 → (d' ≡ d) × (m' ≡ m) × (ids' ≡ ids) × (counts' ≡ counts)
  pub all-calls : (tips : List ℕ) (st : State) → open_walk (input_with f tips) (room_for (input_with f tips) (lengths_of m)) ≡ opened st → n ≡ P (input_with f tips) + 2
      → (h₀ : Held) → Made task embargoed terms (input_with f tips) h₀ m.parents 0 d m ids counts → Drove task embargoed terms (input_with f tips) h₀ m.parents d' m' ids' counts'
  pub few : Few n d'.tally
  pub same-lengths : lengths_of m' ≡ lengths_of m
