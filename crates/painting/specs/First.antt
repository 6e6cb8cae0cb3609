-- What painting promises to the first call of a walk (document 01: Painting). Assumes nothing.
use Rattle.std.specs.Prelude.{ℕ, ◌≤◌, ◌≡◌, true, List, [], length, Result, Ok, Err}
use Rattle.walk.specs.declared.Refusal.{Refusal}
use Rattle.walk.specs.State.{State}
use Rattle.walk.specs.Opening.{Input, P, walk_of, open_walk, opened}
use Rattle.walk.specs.Next.{refused, step, take_next, first_call}
use Rattle.walk.specs.AnyInput.{OfCall}
use Rattle.walk.specs.Universe.{universe}
use Rattle.state.specs.declared.Record.{Record}
use Rattle.state.specs.Reads.{Memory, Reads, Universe}
use Rattle.state.specs.Shapes.{shape_of}
use Rattle.painting.specs.declared.PaintError.{PaintError}
use Rattle.painting.specs.declared.PaintError.TheVariants.{Refused, Touched}

-- the record r and the memory m, with the buffer levels, stand at the first call after an accepted opening with the input i
pub record AtFirst (i : Input) (r : Record) (m : Memory) (levels : List ℕ) (st : State) : Type 0 where
  pub accepted : open_walk i true ≡ opened st
  pub reads : Reads r m (shape_of i) st
  pub for_levels : P i ≤ length levels

-- painting is over: the first call is the next commit of the state that the memory reads as now, whose ids the files and lists name
pub record GoesOn (i : Input) (st : State) (r' : Record) (m' : Memory) : Type 0 where
  pub after : State
  pub is : first_call (walk_of i) st ≡ take_next (walk_of i) after
  pub reads : Reads r' m' (shape_of i) after
  pub inside : Universe (shape_of i) after (universe i)
  pub same-admitted : after.admitted ≡ st.admitted

-- "line emptied (all of it struck), refusal given once": the first call is this refusal
pub record GivesUp (i : Input) (st : State) (n : Refusal) (r' : Record) (m' : Memory) : Type 0 where
  pub after : State
  pub is : first_call (walk_of i) st ≡ step (refused n) [] after
  pub reads : Reads r' m' (shape_of i) after

-- what painting comes to, as the code answers
abbrev pub Painted : Type 0
Painted = Result Record PaintError

-- what an answer says; on untouched memory none says that it was touched
abbrev pub Told : Input → State → Memory → Painted → Type 0
Told i st m' (Ok r') = GoesOn i st r' m'
Told i st m' (Err (Refused n r')) = GivesUp i st n r' m'
Told i st m' (Err Touched) = ⊥

-- a refusal in painting is 9, 10 or 11, on any bytes
abbrev pub RefusesBy : Painted → Type 0
RefusesBy (Ok r') = Unit {0}
RefusesBy (Err (Refused n r')) = OfCall n
RefusesBy (Err Touched) = Unit {0}

-- compute_hidden_frontier, with its answer a
pub record Paints (store graph hidden : List ℕ) (r : Record) (m : Memory) (levels : List ℕ) (m' : Memory) (a : Painted) : Type 0 where
  pub right : (i : Input) → i.store ≡ store → i.graph ≡ graph → i.hidden ≡ hidden → (st : State) → AtFirst i r m levels st → Told i st m' a
  pub of_call : RefusesBy a
