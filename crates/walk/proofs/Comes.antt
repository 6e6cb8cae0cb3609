-- The states that painting goes through, mark by mark, and what the lent memory has to hold of them: definitions for the laws of its loop.
-- Assumes nothing.
use mathlib.Core.Path.{◌≡◌}
use Prim.Native.Nat.{ℕ, suc, ◌+◌, ◌*◌, ◌≤◌}
use mathlib.Core.Bool.{true, false}
use mathlib.Core.List.{List, [], ◌∷◌, map}
use lib.ListN.{length}
use Rattle.hash.specs.Bytes.{Id}
use Rattle.walk.specs.Lookup.{World, Pair, parents_of, read}
use Rattle.walk.specs.State.{ids, State}
use Rattle.walk.specs.Opening.{Input, walk_of, P, open_walk, opened}
use Rattle.walk.specs.Painting.{Paint, going, Marks, mark, lacks, passed, fresh, with_pending, sorted, unpainted, VISIBLE, HIDDEN}
use Rattle.walk.specs.Reach.{Mem, NoDup}

-- where painting stands: waiting ids still to get VISIBLE; hidden tips still to get HIDDEN; between two turns; within a turn, what is passed and
-- the parents still to be looked at
pub data Phase : Type 0 where
  showing : List Id → Phase
  hiding : List Id → Phase
  turning : Phase
  passing : Marks → List Id → Phase

-- the ids still to be looked at
unfoldable pub due : Phase → List Id
due (showing xs) = xs
due (hiding xs) = xs
due turning = []
due (passing m xs) = xs

-- painting comes to a state, after a number of turns begun
pub data Comes (w : World) (waiting hidden : List Id) : ℕ → Phase → Paint → Type 0 where
  at_first : Comes w waiting hidden 0 (showing (sorted waiting)) unpainted
  shows : {x : Id} {xs : List Id} {st st' : Paint} → Comes w waiting hidden 0 (showing (x ∷ xs)) st → mark w VISIBLE x st ≡ going st' → Comes w waiting hidden 0 (showing xs) st'
  all_shown : {st : Paint} → Comes w waiting hidden 0 (showing []) st → Comes w waiting hidden 0 (hiding hidden) st
  hides : {x : Id} {xs : List Id} {st st' : Paint} → Comes w waiting hidden 0 (hiding (x ∷ xs)) st → mark w HIDDEN x st ≡ going st' → Comes w waiting hidden 0 (hiding xs) st'
  all-hidden : {st : Paint} → Comes w waiting hidden 0 (hiding []) st → Comes w waiting hidden 0 turning st
  takes : {n : ℕ} {st : Paint} {q : Pair × Id} {qs : List (Pair × Id)} → Comes w waiting hidden n turning st → fresh st.stale st.pending ≡ true → st.pending ≡ q ∷ qs
      → Comes w waiting hidden (suc n) (passing (passed st q.1) (parents_of (read w q.1))) (with_pending qs st)
  skips : {n : ℕ} {m : Marks} {x : Id} {xs : List Id} {st : Paint} → Comes w waiting hidden n (passing m (x ∷ xs)) st → lacks m x st ≡ false → Comes w waiting hidden n (passing m xs) st
  gives : {n : ℕ} {m : Marks} {x : Id} {xs : List Id} {st st' : Paint} → Comes w waiting hidden n (passing m (x ∷ xs)) st → lacks m x st ≡ true → mark w m x st ≡ going st'
      → Comes w waiting hidden n (passing m xs) st'
  all-passed : {n : ℕ} {m : Marks} {st : Paint} → Comes w waiting hidden n (passing m []) st → Comes w waiting hidden n turning st

-- the painting of an opened walk comes to a state
unfoldable pub PaintingOf : Input → State → ℕ → Phase → Paint → Type 0
PaintingOf i st n ph p = Comes (walk_of i).world (ids st.queue) (walk_of i).hidden n ph p

-- an id that memory has to hold meanwhile: seen, marked, queued, or still to be looked at
pub data Touched (st : State) (ph : Phase) (p : Paint) (x : Id) : Type 0 where
  is_seen : st.seen x ≡ true → Touched st ph p x
  is-visible : p.vis x ≡ true → Touched st ph p x
  is_hidden : p.hid x ≡ true → Touched st ph p x
  is-stale : p.stale x ≡ true → Touched st ph p x
  is-queued : Mem x (map (λ (e : Pair × Id). e.1) p.pending) → Touched st ph p x
  is-due : Mem x (due ph) → Touched st ph p x

-- with n places for ids and 3 n for the queue: the turns so far and the queue together, and the different ids
pub record PaintFits (n : ℕ) (st : State) (k : ℕ) (ph : Phase) (p : Paint) : Type 0 where
  pub loop_fits : k + length p.pending ≤ 3 * n
  pub names-fit : (l : List Id) → NoDup l → ((x : Id) → Mem x l → Touched st ph p x) → length l ≤ n

-- P places suffice for every state of painting
unfoldable pub PaintingFits : Input → Type 0
PaintingFits i = (st : State) → open_walk i true ≡ opened st → (k : ℕ) (ph : Phase) (p : Paint) → PaintingOf i st k ph p → PaintFits (P i) st k ph p
