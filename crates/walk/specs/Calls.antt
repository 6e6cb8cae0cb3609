-- Every call after an opening (document 01: "every answer … equals that of the walk as written here, which is fed only the opening's
-- files, lists and settings and the number of calls"). Assumes nothing.
use Rattle.std.specs.Prelude.{ℕ, zero, suc, true, List, [], ◌∷◌, None}
use Rattle.walk.specs.declared.Refusal.TheVariants.{Closed}
use Rattle.walk.specs.Settings.{timed, cutoff_of, not_before, only_first, by_time, taken_before, sooner, goes_before, followed}
use Rattle.walk.specs.Lookup.{row_at, world_of, store_seconds, seconds_for, lt_pair, from_store, read_row, read, parents_of}
use Rattle.walk.specs.State.{Walk, State, add, queued, enter, ids, is_empty, empty_state, sees, waits, with_queue}
use Rattle.walk.specs.Opening.{Input, list_ids, P, walk_of, sizes_ok, whole_ids, refusal, room_for, Opening, closed, opened, distinct, tips_in, open_tips, open_or, open_walk}
use Rattle.walk.specs.Painting.{then, add_pending, also, mark_read, mark, mark_all, lacks, pass, passed, fresh, with_pending, turn, turns, insert_id, sorted, paint}
use Rattle.walk.specs.Next.{refused, Answer, step, admits, visit, visit_all, with_seconds, queued_seconds, level_shown, step_from_row, ending, kind_of, from_body, dropped, back, take_store, take_row, take_queue, take_next, outside, painted_with, after_paint, first_call, next}

-- ---- call by call

-- the state that an opening leaves; a refused one leaves none, and the empty state stands for it
unfoldable pub state_of : Opening → State
state_of (closed r) = empty_state
state_of (opened st) = st

-- the state after k next calls
unfoldable pub state_after : Input → ℕ → State
state_after i zero = state_of (open_walk i true)
state_after i (suc k) = (next (walk_of i) (state_after i k)).state

-- the answer to a call on a closed record: 12, and "12 carr[ies] zeros"
abbrev pub shut : Answer
shut = record { kind = refused Closed; parents = []; zone = None; admitted = 0; struck = 0; waiting = 0 }

unfoldable pub answer_on : Walk → State → Opening → Answer
answer_on w st (closed r) = shut
answer_on w st (opened q) = (next w st).answer

-- the answer of call k after an opening, counted from 0
unfoldable pub answer_at_call : Input → ℕ → Answer
answer_at_call i k = answer_on (walk_of i) (state_after i k) (open_walk i true)

-- ---- all at once

-- the answers to k calls
unfoldable pub calls : Walk → ℕ → State → List Answer
calls w zero st = []
calls w (suc k) st = let r = next w st in r.answer ∷ calls w k r.state

unfoldable pub shut_calls : ℕ → List Answer
shut_calls zero = []
shut_calls (suc k) = shut ∷ shut_calls k

unfoldable pub answers_from : Walk → ℕ → Opening → List Answer
answers_from w k (closed n) = shut_calls k
answers_from w k (opened st) = calls w k st

-- the answers to k next calls after an opening; they are `answer_at_call` of 0 to k − 1, in order
unfoldable pub answers : Input → ℕ → List Answer
answers i k = answers_from (walk_of i) k (open_walk i true)

-- f 0, …, f (k − 1)
unfoldable pub up_to {ℓ} : {A : Type ℓ} → (ℕ → A) → ℕ → List A
up_to f zero = []
up_to f (suc k) = f zero ∷ up_to (λ n. f (suc n)) k

-- opens every definition of the walk, for theorems that compute
unfoldable pub walk_all : Unit {0}
unfolding timed cutoff_of not_before only_first by_time taken_before sooner goes_before followed row_at world_of store_seconds seconds_for lt_pair from_store read_row read parents_of add queued enter ids is_empty sees waits with_queue list_ids P walk_of sizes_ok whole_ids refusal room_for distinct tips_in open_tips open_or open_walk then add_pending also mark_read mark mark_all lacks pass passed fresh with_pending turn turns insert_id sorted paint step admits visit visit_all with_seconds queued_seconds level_shown step_from_row ending kind_of from_body dropped back take_store take_row take_queue take_next outside painted_with after_paint first_call next state_of state_after answer_on answer_at_call calls shut_calls answers_from answers
walk_all = tt
