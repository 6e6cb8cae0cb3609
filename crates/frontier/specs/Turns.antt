-- The turns of painting: `turn` and `turns` of the walk's painting, told of the lent memory. Assumes nothing.
use Rattle.std.specs.Prelude.{ℕ, ◌-◌, ◌≡◌, Bool, true, false, cond, take, ltb, Option}
use Rattle.commitgraph.specs.declared.Layout.{Layout}
use mathlib.Core.List.{List, ◌∷◌, ◌++◌, Memᴰ}
use Rattle.hash.specs.Bytes.{Id}
use Rattle.pending.specs.Pending.{stale_at, older_in, younger_in, fresh as anyFresh}
use Rattle.pending.specs.declared.Pending.{Pending}
use Rattle.walk.specs.Lookup.{World, Pair, read, parents_of}
use Rattle.walk.specs.Painting.{Paint, going, pass, passed, with_pending, fresh, turn, turns}
use Rattle.reading.specs.Files.{world_under}
use Rattle.frontier.specs.Paint.{Marked, Lent, Files, PaintReads, Named, Short, Ends}

-- a turn leaves room for k in the queue, whatever part of the parents has been looked at
abbrev pub TurnFits : World → ℕ → Paint → Type 0
TurnFits w k st = (q : Pair × Id) (qs : List (Pair × Id)) → st.pending ≡ q ∷ qs
    → (i : ℕ) → Short k (pass w (passed st q.1) (take i (parents_of (read w q.1))) (with_pending qs st))

-- a turn may be taken: there is room for what it queues, and u has every id that is a parent
pub record MayTurn (width : ℕ) (w : World) (cap : ℕ) (u : List Id) (m : Lent) (p : Pending) (st : Paint) : Type 0 where
  pub reads : PaintReads width w cap m p st
  pub named : Named width cap u m
  pub parents_in : (x y : Id) → Memᴰ y (parents_of (read w x)) → Memᴰ y u
  pub room : TurnFits w (p.end - p.base) st

-- what `turn` does: `turn`
pub record TakesTurn (width : ℕ) (c : Option Layout) (g s : List ℕ) (cap : ℕ) (m m' : Lent) (p : Pending) (r : Marked) : Type 0 where
  pub right : Files width c g s → (u : List Id) (st : Paint) → MayTurn width (world_under width c g s) cap u m p st
      → Ends width (world_under width c g s) cap u p m m' r (turn (world_under width c g s) st st.pending)

-- "a queued commit lacks STALE": one of the younger or of the older slots that wait
abbrev pub any_lacking : List ℕ → List ℕ → Pending → Bool
any_lacking marks line p = anyFresh (stale_at marks) (younger_in p line ++ older_in p line)

-- the turns may be taken: there is room for each
pub record MayTurns (width : ℕ) (w : World) (cap : ℕ) (u : List Id) (m : Lent) (p : Pending) (st : Paint) : Type 0 where
  pub reads : PaintReads width w cap m p st
  pub named : Named width cap u m
  pub parents_in : (x y : Id) → Memᴰ y (parents_of (read w x)) → Memᴰ y u
  pub room : (i : ℕ) (st' : Paint) → turns w i st ≡ going st' → fresh st'.stale st'.pending ≡ true → TurnFits w (p.end - p.base) st'

-- what `turns` does: `turns`, at most k of them
pub record TakesTurns (width : ℕ) (c : Option Layout) (g s : List ℕ) (cap : ℕ) (m m' : Lent) (p : Pending) (k : ℕ) (r : Marked) : Type 0 where
  pub right : Files width c g s → (u : List Id) (st : Paint) → MayTurns width (world_under width c g s) cap u m p st
      → Ends width (world_under width c g s) cap u p m m' r (turns (world_under width c g s) k st)
