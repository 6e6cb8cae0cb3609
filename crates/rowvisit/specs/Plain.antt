-- What the call in place promises of a plain row: the first of the queue leaves, and the parents of the row are visited as those of any row; where the row is not
-- plain, or nothing waits, nothing is changed. Assumes nothing.
use Rattle.std.specs.Prelude.{ℕ, ◌≡◌, List, ℤ, None, Option, Some, MatchOption}
use Rattle.commitgraph.specs.declared.Layout.{Layout}
use Rattle.walk.specs.declared.Settings.{Settings}
use Rattle.revwalk.specs.declared.queue.Popped.{Popped}
use Rattle.state.specs.declared.Record.{Record}
use Rattle.state.specs.Reads.{Memory}
use Rattle.state.specs.Shapes.{waiting_in}
use Rattle.state.specs.Steps.{mem}
use Rattle.links.specs.Leaving.{Leaves, without}
use Rattle.rowvisit.specs.declared.plain.Left.{Left}
use Rattle.rowvisit.specs.declared.plain.PlainTaken.{PlainTaken}
use Rattle.rowvisit.specs.Row.{visited, VisitsRow, VisitsCached}

-- take_first, with its answer a: the first n parents of the row at position p are visited, or nothing is changed, with the levels v before and v' after
pub record TakesFirst (excluded : List ℕ) (settings : Settings) (g : List ℕ) (l : Layout) (p n : ℕ) (r : Record) (names marks : List ℕ) (times : List ℤ) (line : List ℕ) (m' : Memory) (v v' b b' : List ℕ) (a : Option Left) : Type 0 where
  pub right : MatchOption a ((m' ≡ mem names marks times line) × (v' ≡ v) × (b' ≡ b))
      (λ t. (line₁ : List ℕ) × (q : Popped) × Leaves r times line line₁ q t.seconds × VisitsRow excluded settings g l p n (waiting_in r (without r q)) (mem names marks times line₁) m' b b' (waiting_in r t.after))

-- by what is answered: the first has left and the parents are visited, or nothing is changed
abbrev pub PlainBy : Option PlainTaken → List ℕ → Settings → List ℕ → Layout → ℕ → Record → List ℕ → List ℕ → List ℤ → List ℕ → Memory → List ℕ → List ℕ → List ℕ → List ℕ → Type 0
PlainBy (Some a) excluded settings g l p r names marks times line m' v v' b b' =
    (line₁ : List ℕ) × (q : Popped) × Leaves r times line line₁ q a.seconds × VisitsCached excluded settings g l p r (without r q) (mem names marks times line₁) m' v v' b b' (Some (visited a.after a.parents a.level))
PlainBy None excluded settings g l p r names marks times line m' v v' b b' = (m' ≡ mem names marks times line) × (v' ≡ v) × (b' ≡ b)

-- take_plain, with its answer a, of the row at position p
pub record TakesPlain (excluded : List ℕ) (settings : Settings) (g : List ℕ) (l : Layout) (p : ℕ) (r : Record) (names marks : List ℕ) (times : List ℤ) (line : List ℕ) (m' : Memory) (v v' b b' : List ℕ) (a : Option PlainTaken) : Type 0 where
  pub right : PlainBy a excluded settings g l p r names marks times line m' v v' b b'
