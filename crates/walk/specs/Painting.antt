-- Painting (document 01): which commits are reachable both from the waiting commits and from the hidden tips; the frontier.
-- Assumes nothing.
use Rattle.std.specs.Prelude.{ℕ, zero, suc, Bool, true, false, cond, not, ◌&&◌, ◌||◌, List, [], ◌∷◌}
use Rattle.hash.specs.Bytes.{Id, lt_id}
use Rattle.walk.specs.declared.Refusal.{Refusal}
use Rattle.walk.specs.Lookup.{World, Pair, lt_pair, Read, fail, good, read, parents_of}
use Rattle.walk.specs.State.{nobody, add}

-- the marks VISIBLE, HIDDEN and STALE, each as the set of the ids that have it, and the commits that painting has queued, in the
-- order in which they are taken
pub record Paint : Type 0 where
  pub vis : Id → Bool
  pub hid : Id → Bool
  pub stale : Id → Bool
  pub pending : List (Pair × Id)

-- painting goes on, or is ended by a refusal
pub data Painting : Type 0 where
  stop : Refusal → Painting
  going : Paint → Painting

unfoldable pub then : Painting → (Paint → Painting) → Painting
then (stop n) f = stop n
then (going st) f = f st

-- which marks are given
pub record Marks : Type 0 where
  pub v : Bool
  pub h : Bool
  pub s : Bool

abbrev pub VISIBLE : Marks
VISIBLE = record { v = true; h = false; s = false }

abbrev pub HIDDEN : Marks
HIDDEN = record { v = false; h = true; s = false }

-- x enters the queue of painting: "the greatest pair [leaves first], among equals the first queued"
unfoldable pub add_pending : Pair → Id → List (Pair × Id) → List (Pair × Id)
add_pending p x [] = (p, x) ∷ []
add_pending p x (y ∷ ys) =
    let r : List (Pair × Id) = add_pending p x ys in
    let here : List (Pair × Id) = (p, x) ∷ (y ∷ ys) in
    let there : List (Pair × Id) = y ∷ r in
    cond (lt_pair y.0 p) here there

-- x joins a set if its mark is given
unfoldable pub also : Bool → (Id → Bool) → Id → Id → Bool
also true f x = add f x
also false f x = f

-- x gets the marks and is queued. "A commit is read when it first gets a mark; the first that is absent (9), unreadable (10) or crowded
-- (11), or a corrupt list (here 10), ends painting". (Reading again gives the same.)
unfoldable pub mark_read : Marks → Id → Paint → Read → Painting
mark_read m x st (fail n) = stop n
mark_read m x st (good ps p) = going (record {
  vis = also m.v st.vis x;
  hid = also m.h st.hid x;
  stale = also m.s st.stale x;
  pending = add_pending p x st.pending;
})

unfoldable pub mark : World → Marks → Id → Paint → Painting
mark w m x st = mark_read m x st (read w x)

-- the marks to every id of a list, in order, "each is queued"
unfoldable pub mark_all : World → Marks → List Id → Paint → Painting
mark_all w m [] st = going st
mark_all w m (x ∷ xs) st = then (mark w m x st) (λ st'. mark_all w m xs st')

unfoldable pub lacks : Marks → Id → Paint → Bool
lacks m x st = (m.v && not (st.vis x)) || (m.h && not (st.hid x)) || (m.s && not (st.stale x))

-- "each parent lacking a passed mark gets them and is queued"
unfoldable pub pass : World → Marks → List Id → Paint → Painting
pass w m [] st = going st
pass w m (x ∷ xs) st =
    let new : Painting = then (mark w m x st) (λ st'. pass w m xs st') in
    let old : Painting = pass w m xs st in
    cond (lacks m x st) new old

-- what a commit passes on, its marks: "if its marks are exactly the first two, add STALE to what is passed (not to itself)"
unfoldable pub passed : Paint → Id → Marks
passed st x = record { v = st.vis x; h = st.hid x; s = st.stale x || (st.vis x && st.hid x) }

-- "While a queued commit lacks STALE"
unfoldable pub fresh : (Id → Bool) → List (Pair × Id) → Bool
fresh stale [] = false
fresh stale (q ∷ qs) = let r = fresh stale qs in cond (stale q.1) r true

unfoldable pub with_pending : List (Pair × Id) → Paint → Paint
with_pending q st = record { vis = st.vis; hid = st.hid; stale = st.stale; pending = q }

-- "take the greatest pair": the first that is queued
unfoldable pub turn : World → Paint → List (Pair × Id) → Painting
turn w st [] = going st
turn w st (q ∷ qs) = pass w (passed st q.1) (parents_of (read w q.1)) (with_pending qs st)

-- at most k turns; a walk's fuel is more than painting ever takes
unfoldable pub turns : World → ℕ → Paint → Painting
turns w zero st = going st
turns w (suc k) st =
    let r : Painting = then (turn w st st.pending) (λ st'. turns w k st') in
    cond (fresh st.stale st.pending) r (going st)

abbrev pub unpainted : Paint
unpainted = record { vis = nobody; hid = nobody; stale = nobody; pending = [] }

-- "by rising id"
unfoldable pub insert_id : Id → List Id → List Id
insert_id x [] = x ∷ []
insert_id x (y ∷ ys) =
    let r : List Id = insert_id x ys in
    let here : List Id = x ∷ (y ∷ ys) in
    let there : List Id = y ∷ r in
    cond (lt_id y x) there here

unfoldable pub sorted : List Id → List Id
sorted [] = []
sorted (x ∷ xs) = insert_id x (sorted xs)

-- "Waiting ids by rising id get VISIBLE, then hidden tips in order HIDDEN; each is queued." Then the turns
unfoldable pub paint : World → ℕ → List Id → List Id → Painting
paint w k waiting hidden =
    then (mark_all w VISIBLE (sorted waiting) unpainted) λ st.
    then (mark_all w HIDDEN hidden st) λ st'.
    turns w k st'

-- "The frontier is every commit with both marks"
abbrev pub both_marks : Paint → Id → Bool
both_marks p x = p.vis x && p.hid x
