-- A next call (document 01): the answer, and the state that it leaves.
-- Assumes nothing.
use Rattle.std.specs.Prelude.{ℕ, ◌+◌, ◌-◌, Bool, true, false, cond, not, ◌&&◌, ◌||◌, List, [], ◌∷◌, map, length, eqb, ℤ, None, Option, Some}
use Rattle.hash.specs.Bytes.{Id, among}
use Rattle.object.specs.Header.{Header}
use Rattle.walk.specs.declared.Settings.{Settings}
use Rattle.walk.specs.declared.Refusal.{Refusal}
use Rattle.walk.specs.declared.Refusal.TheVariants.{CommitNotFound, CommitUnreadable, TooManyParents}
use Rattle.walk.specs.Settings.{by_time, cutoff_of, not_before, only_first, goes_before, followed}
use Rattle.walk.specs.Lookup.{Row, no_row, corrupt, row, no_generation, seconds_for}
use Rattle.walk.specs.State.{Walk, State, nobody, queued, ids, is_empty, sees, waits, with_queue}
use Rattle.walk.specs.Painting.{Painting, stop, going, paint, both_marks}

-- ---- answers

-- end; a refusal; or a commit is handed out: its id, "level if from the graph, and, under a time order that isn't overridden by First,
-- the seconds it was queued with"; card 6: no level where those of the file are not used
pub data Kind : Type 0 where
  end : Kind
  refused : Refusal → Kind
  handed : Id → Option ℕ → Option ℤ → Kind

-- an answer: its kind, the parents' ids that stand at the start of the buffer parents, card 7's zone, "signed minutes, or none", and "this walk's running numbers of commits
-- admitted (those that ever waited), struck and waiting"
pub record Answer : Type 0 where
  pub kind : Kind
  pub parents : List Id
  pub zone : Option ℤ
  pub admitted : ℕ
  pub struck : ℕ
  pub waiting : ℕ

-- an answer and the state after it
pub record Step : Type 0 where
  pub answer : Answer
  pub state : State

unfoldable pub step : Kind → List Id → State → Step
step k ps st = record {
  answer = record { kind = k; parents = ps; zone = None; admitted = st.admitted; struck = st.struck; waiting = length st.queue };
  state = st;
}

-- the same with a zone
abbrev pub zoned : Option ℤ → Step → Step
zoned z s = record {
  answer = record {
    kind = s.answer.kind;
    parents = s.answer.parents;
    zone = z;
    admitted = s.answer.admitted;
    struck = s.answer.struck;
    waiting = s.answer.waiting;
  };
  state = s.state;
}

-- ---- the parents of a commit

-- the link to a parent x with t seconds is admitted, if the mode follows it and x is not seen: "the parent is not barred and is no tip
-- that the cutoff turned away (such a tip is already seen), and, under a cutoff with All, its seconds ≥ cutoff. First ignores the
-- cutoff after the tips."
unfoldable pub admits : Walk → Id → ℤ → Bool
admits w x t = not (among x w.excluded) && (only_first w.settings || not_before (cutoff_of w.settings.sorting) t)

-- "unless in the frontier or seen, it is seen, and waits if its link is admitted"
unfoldable pub visit : Walk → State → Id → ℤ → State
visit w st x t =
    let new : State = cond (admits w x t) (waits w st x t) (sees st x) in
    cond (st.frontier x || st.seen x) st new

unfoldable pub visit_all : Walk → State → List (Id × ℤ) → State
visit_all w st [] = st
visit_all w st (p ∷ ps) = visit_all w (visit w st p.0 p.1) ps

-- "Seconds of a parent come from its own graph row if the child came from the graph, else from the book, else they are 0": the parents
-- of a commit from the store
unfoldable pub with_seconds : Walk → List Id → List (Id × ℤ)
with_seconds w [] = []
with_seconds w (x ∷ xs) = (x, seconds_for w.world x) ∷ with_seconds w xs

unfoldable pub queued_seconds : Walk → ℤ → Option ℤ
queued_seconds w t = cond (by_time w.settings) (Some t) None

-- ---- one commit x, queued with t seconds and out of the queue already

-- the level that an answer shows of a commit from its graph row. Card 6: where no level of the file is used, "listings show none"
unfoldable pub level_shown : ℕ → Option ℕ
level_shown l = cond (eqb l no_generation) None (Some l)

-- from its graph row: "Each parent enters the answer's list … Under First only one parent"
unfoldable pub step_from_row : Walk → State → Id → ℤ → List (Id × ℤ) → ℕ → Step
step_from_row w st x t ps l =
    let f = followed w.settings ps in
    step (handed x (level_shown l) (queued_seconds w t)) (map (λ p. p.0) f) (visit_all w st f)

-- "After the parents of a commit from the book the author line must be good, save where First has stopped"; 11: "a good 257th parent
-- line; of 10 and 11 the earlier line decides": why a header is refused, none where it is not
unfoldable pub ending : Settings → Header → Option Refusal
ending s h =
    let authored : Option Refusal = cond h.author None (Some CommitUnreadable) in
    let counted : Option Refusal = cond h.crowded (Some TooManyParents) authored in
    let whole : Option Refusal = cond (only_first s && not (is_empty h.ids)) None counted in
    cond h.tree whole (Some CommitUnreadable)

unfoldable pub kind_of : Option Refusal → Kind → Kind
kind_of None k = k
kind_of (Some r) k = refused r

-- card 7: "none when the commit came from the graph, which holds no zone; … and is none if a line up to committer is bad, and in a refusal or
-- end": the zone z of a header that ends so
abbrev pub zone_shown : Option Refusal → Option ℤ → Option ℤ
zone_shown None z = z
zone_shown (Some r) z = None

-- from the store. "9 to 11 use up the commit; after 10 and 11 ids already read stand at the start of parents, counted in the answer,
-- and those admitted stay so"
unfoldable pub from_body : Walk → State → Id → ℤ → Option Header → Step
from_body w st x t None = step (refused CommitNotFound) [] st
from_body w st x t (Some h) =
    let f = followed w.settings h.ids in
    zoned (zone_shown (ending w.settings h) h.zone) (step (kind_of (ending w.settings h) (handed x None (queued_seconds w t))) f (visit_all w st (with_seconds w f)))

-- ---- the next commit of the queue

-- "[it] drops the graph for good"
unfoldable pub dropped : List (Id × ℤ) → State → State
dropped l st = record {
  queue = l;
  seen = st.seen;
  frontier = st.frontier;
  painted = st.painted;
  kept = false;
  admitted = st.admitted;
  struck = st.struck;
}

-- "the commit goes back (front, or queued last among equals)"
unfoldable pub back : Walk → Id × ℤ → List (Id × ℤ) → List (Id × ℤ)
back w x l = cond (by_time w.settings) (queued (goes_before w.settings) x l) (x ∷ l)

-- the first of the queue, from the store alone
unfoldable pub take_store : Walk → State → List (Id × ℤ) → Step
take_store w st [] = step end [] st
take_store w st (x ∷ l) = from_body w (with_queue l st) x.0 x.1 (w.world.store x.0)

-- "Look it up. A corrupt list drops the graph for good and the commit goes back"; the call goes on without the graph
unfoldable pub take_row : Walk → State → Id × ℤ → List (Id × ℤ) → Row → Step
take_row w st x l no_row = take_store w st (x ∷ l)
take_row w st x l corrupt = take_store w (dropped (back w x l) st) (back w x l)
take_row w st x l (row ps g s) = step_from_row w (with_queue l st) x.0 x.1 ps g

-- "Breadth order takes the front; time order the newest or oldest; among equals the first queued. Empty: end."
unfoldable pub take_queue : Walk → State → List (Id × ℤ) → Step
take_queue w st [] = step end [] st
take_queue w st (x ∷ l) =
    let r = take_row w st x l (w.world.graph x.0) in
    let b = take_store w st (x ∷ l) in
    cond st.kept r b

unfoldable pub take_next : Walk → State → Step
take_next w st = take_queue w st st.queue

-- ---- the first call paints

-- what of a queue lies outside a set
unfoldable pub outside : (Id → Bool) → List (Id × ℤ) → List (Id × ℤ)
outside f [] = []
outside f (x ∷ xs) = let r = outside f xs in cond (f x.0) r (x ∷ r)

-- painting has left the queue l and the frontier f; what left the queue is struck
unfoldable pub painted_with : State → List (Id × ℤ) → (Id → Bool) → State
painted_with st l f = record {
  queue = l;
  seen = st.seen;
  frontier = f;
  painted = true;
  kept = st.kept;
  admitted = st.admitted;
  struck = st.struck + (length st.queue - length l);
}

-- "The frontier … leaves the line." A refusal: "line emptied (all of it struck), refusal given once, then end"
unfoldable pub after_paint : Walk → State → Painting → Step
after_paint w st (stop n) = step (refused n) [] (painted_with st [] nobody)
after_paint w st (going p) = take_next w (painted_with st (outside (both_marks p) st.queue) (both_marks p))

-- "Done by the first next call, unless hidden tips or waiting commits are none."
unfoldable pub first_call : Walk → State → Step
first_call w st =
    let r = after_paint w st (paint w.world w.fuel (ids st.queue) w.hidden) in
    let n = take_next w (painted_with st st.queue nobody) in
    cond (is_empty w.hidden || is_empty st.queue) n r

unfoldable pub next : Walk → State → Step
next w st =
    let f = first_call w st in
    let n = take_next w st in
    cond st.painted n f
