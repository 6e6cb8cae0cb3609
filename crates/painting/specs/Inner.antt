-- What the inner functions promise: a refusal of a call, and what the answer of painting comes to. Assumes nothing.
use Rattle.std.specs.Prelude.{ℕ, ◌≡◌, List, ℤ, Ok, Err}
use Rattle.walk.specs.declared.Refusal.{Refusal}
use Rattle.walk.specs.AnyInput.{OfCall}
use Rattle.state.specs.declared.Record.{Record}
use Rattle.frontier.specs.Paint.{Marked}
use Rattle.frontier.specs.declared.marking.MarkError.TheVariants.{Stop, NoRoom}
use Rattle.refill.specs.Painted.{Leaves, Fails}
use Rattle.painting.specs.declared.PaintError.TheVariants.{Refused, Touched}
use Rattle.painting.specs.First.{Painted, RefusesBy}

-- call_refusal, with its answer r: 9, 10 and 11 stay what they are
pub record RefusesCall (n r : Refusal) : Type 0 where
  pub of_call : OfCall r
  pub same : OfCall n → r ≡ n

-- by the answer of painting: "the frontier … leaves the line"; or "line emptied (all of it struck), refusal given"; or there was no room
abbrev pub Finished : Record → List ℕ → List ℕ → List ℕ → List ℤ → List ℤ → List ℕ → List ℕ → Marked → Painted → Type 0
Finished r store names marks times times' line line' (Ok p) y = (r' : Record) × (y ≡ Ok r') × Leaves r store names marks times times' line line' r'
Finished r store names marks times times' line line' (Err (Stop n)) y =
    (why : Refusal) × (r' : Record) × (y ≡ Err (Refused why r')) × RefusesCall n why × Fails r r' × (times' ≡ times) × (line' ≡ line)
Finished r store names marks times times' line line' (Err NoRoom) y = y ≡ Err Touched

-- finish_painting, with its answer y
pub record Finishes (a : Marked) (r : Record) (store names marks : List ℕ) (times times' : List ℤ) (line line' : List ℕ) (y : Painted) : Type 0 where
  pub does : Finished r store names marks times times' line line' a y
  pub of_call : RefusesBy y
