-- What visits of parents one after the other promise: the state after the walk's own visits, and the ids at the start of the buffer parents.
-- Assumes nothing.
use Rattle.std.specs.Prelude.{ℕ, ◌+◌, ◌*◌, ◌≤◌, ◌≡◌, length, get_or, ℤ}
use mathlib.Core.List.{List, map, Memᴰ}
use Rattle.hash.specs.Bytes.{Id, set_down, width_of}
use Rattle.walk.specs.Opening.{parents_room}
use Rattle.walk.specs.declared.Settings.{Settings}
use Rattle.walk.specs.State.{Walk, State}
use Rattle.walk.specs.Next.{visit_all}
use Rattle.walk.specs.Given.{joined}
use Rattle.state.specs.declared.Record.{Record}
use Rattle.state.specs.Reads.{Memory, Shape}
use Rattle.links.specs.Link.{GoesBy, Ready, Went}

-- the bytes past the first n ids of the buffer are as they were
pub record Past (width : ℕ) (n : ℕ) (b b' : List ℕ) : Type 0 where
  pub same : (k : ℕ) → width * n ≤ k → get_or b' k 0 ≡ get_or b k 0

-- the parents ps, each with its seconds, are visited
pub record VisitsEach (excluded : List ℕ) (settings : Settings) (r : Record) (m m' : Memory) (ps : List (Id × ℤ)) (r' : Record) : Type 0 where
  pub went : (v : Walk) (sh : Shape) (st : State) (u : List Id) (n : ℕ) → GoesBy v sh excluded settings → Ready sh r m st u (length ps + n) → ((p : Id × ℤ) → Memᴰ p ps → Memᴰ p.0 u)
      → Went sh m r' m' (visit_all v st ps) u n

-- the parents ps, each with its seconds, are visited, and their ids set down at the start of the buffer b
pub record VisitsAll (excluded : List ℕ) (settings : Settings) (r : Record) (m m' : Memory) (b b' : List ℕ) (ps : List (Id × ℤ)) (r' : Record) : Type 0 where
  pub went : (v : Walk) (sh : Shape) (st : State) (u : List Id) (n : ℕ) → GoesBy v sh excluded settings → Ready sh r m st u (length ps + n) → ((p : Id × ℤ) → Memᴰ p ps → Memᴰ p.0 u)
      → Went sh m r' m' (visit_all v st ps) u n
  pub down : parents_room (width_of settings.kind) ≤ length b → b' ≡ set_down b 0 (joined (map (λ p. p.0) ps))
