-- What leaves the queue of a record, for the call in place. Assumes nothing.
use Rattle.std.specs.Prelude.{ℕ, ◌≡◌, List, ℤ, Some}
use Rattle.date.specs.declared.Seconds.{Seconds}
use Rattle.revwalk.specs.declared.queue.Popped.{Popped}
use Rattle.revwalk.specs.Order.{seconds_of}
use Rattle.revwalk.specs.Queue.{Pops}
use Rattle.state.specs.declared.Record.{Record}
use Rattle.state.specs.declared.Waiting.{Waiting}

-- q has left the queue of the record r, whose line is line₁ then; its slot has s seconds
pub record Leaves (r : Record) (times : List ℤ) (line line₁ : List ℕ) (q : Popped) (s : Seconds) : Type 0 where
  pub pops : Pops r.queue times line line₁ (Some q)
  pub seconds : s.0 ≡ seconds_of times q.slot

-- what waits then
abbrev pub without : Record → Popped → Waiting
without r q = record { queue = q.queue; admitted = r.admitted }
