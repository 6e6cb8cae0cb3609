-- What the call in place promises of a commit's body: the first of the queue leaves, and the parents of the body are visited as those of any body; where nothing
-- waits, nothing is changed. Assumes nothing.
use Rattle.std.specs.Prelude.{ℕ, ◌≡◌, List, ℤ, Option, MatchOption}
use Rattle.object.specs.Header.{Header}
use Rattle.walk.specs.declared.Settings.{Settings}
use Rattle.revwalk.specs.declared.queue.Popped.{Popped}
use Rattle.state.specs.declared.Record.{Record}
use Rattle.state.specs.Reads.{Memory}
use Rattle.state.specs.Steps.{mem}
use Rattle.links.specs.Leaving.{Leaves, without}
use Rattle.bodyvisit.specs.declared.taking.BodyTaken.{BodyTaken}
use Rattle.bodyvisit.specs.Body.{VisitsBody}

-- take_body, with its answer a: the parents of the body with the header h are visited, or nothing is changed, with the levels v before and v' after
pub record TakesBodyHere (excluded : List ℕ) (settings : Settings) (store : List ℕ) (h : Header) (r : Record) (names marks : List ℕ) (times : List ℤ) (line : List ℕ) (m' : Memory) (v v' b b' : List ℕ) (a : Option BodyTaken) : Type 0 where
  pub right : MatchOption a ((m' ≡ mem names marks times line) × (v' ≡ v) × (b' ≡ b))
      (λ t. (line₁ : List ℕ) × (q : Popped) × Leaves r times line line₁ q t.seconds × VisitsBody excluded settings store h r (without r q) (mem names marks times line₁) m' b b' t.visited)
