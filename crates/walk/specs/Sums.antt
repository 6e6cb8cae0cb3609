-- The sum over a list of calls, and when end is said at latest (document 01: "over every list of next calls after an accepted opening …:
-- admitted = handed + refused commits + struck by painting + waiting; and from an opening, call P + 2 at latest says end").
-- Assumes nothing.
use Rattle.std.specs.Prelude.{◌≡◌, ◌↔◌, ℕ, zero, suc, ◌+◌, Bool, true, false, cond, ◌||◌, List, [], ◌∷◌, ltb}
use Rattle.walk.specs.declared.Refusal.{Refusal}
use Rattle.walk.specs.State.{State, ids, is_empty}
use Rattle.walk.specs.Opening.{Input, P, walk_of, open_walk, opened}
use Rattle.walk.specs.Painting.{stop, paint}
use Rattle.walk.specs.Next.{Kind, end, refused, handed, Answer}
use Rattle.walk.specs.Calls.{answers, state_after, answer_at_call}

-- how many commits an answer used up, told from the answer alone: one that is handed out, and one that is refused; painting's own refusal
-- uses up none ("it is no refused commit in the sum below"), and is told by all admitted commits being struck
unfoldable pub uses_kind : Kind → Bool → ℕ
uses_kind end left = 0
uses_kind (refused n) left = cond left 1 0
uses_kind (handed x g t) left = 1

unfoldable pub uses : Answer → ℕ
uses a = uses_kind a.kind (ltb a.struck a.admitted)

-- after n commits were used up: in each answer, admitted = used up (handed out or refused) + struck + waiting
pub data Sums : ℕ → List Answer → Type 0 where
  no_call : {n : ℕ} → Sums n []
  call : {n : ℕ} {a : Answer} {rest : List Answer} → a.admitted ≡ n + uses a + a.struck + a.waiting → Sums (n + uses a) rest → Sums n (a ∷ rest)

-- every answer from number n on, counted from 0, is end
pub data EndsBy : ℕ → List Answer → Type 0 where
  no_call : {n : ℕ} → EndsBy n []
  before : {n : ℕ} {a : Answer} {rest : List Answer} → EndsBy n rest → EndsBy (suc n) (a ∷ rest)
  over : {a : Answer} {rest : List Answer} → a.kind ≡ end → EndsBy zero rest → EndsBy zero (a ∷ rest)

-- of every opening that is accepted
unfoldable pub SumLaw : Input → Type 0
SumLaw i = (st : State) → open_walk i true ≡ opened st → (k : ℕ) → Sums 0 (answers i k)

-- number P + 1 counted from 0 is call P + 2
unfoldable pub EndLaw : Input → Type 0
EndLaw i = (st : State) → open_walk i true ≡ opened st → (k : ℕ) → EndsBy (P i + 1) (answers i k)

-- ---- painting's own refusal

-- the first call paints, which it does "unless hidden tips or waiting commits are none", and painting ends in the refusal n: "the first that
-- is absent (9), unreadable (10) or crowded (11), or a corrupt list (here 10), ends painting"
pub record PaintingRefuses (i : Input) (n : Refusal) : Type 0 where
  pub due : (is_empty (walk_of i).hidden || is_empty (state_after i 0).queue) ≡ false
  pub ends : paint (walk_of i).world (walk_of i).fuel (ids (state_after i 0).queue) (walk_of i).hidden ≡ stop n

-- the refusal n in the answer of call k, counted from 0, is painting's own
abbrev pub PaintingsOwn : Input → ℕ → Refusal → Type 0
PaintingsOwn i k n = (k ≡ 0) × PaintingRefuses i n

-- a refusal n in the answer of call k is told from that answer: it counts as a refused commit exactly where it is not painting's own
pub record ToldApart (i : Input) (k : ℕ) (n : Refusal) : Type 0 where
  pub commit : (uses (answer_at_call i k) ≡ 1) ↔ (PaintingsOwn i k n → ⊥)
  pub own : (uses (answer_at_call i k) ≡ 0) ↔ PaintingsOwn i k n

-- of every opening that is accepted, every call and every refusal
unfoldable pub RefusedCommits : Input → Type 0
RefusedCommits i = (st : State) → open_walk i true ≡ opened st → (k : ℕ) (n : Refusal) → (answer_at_call i k).kind ≡ refused n → ToldApart i k n

-- "line emptied (all of it struck), refusal given once, then end"
pub record GivenOnce (i : Input) (n : Refusal) : Type 0 where
  pub given : (answer_at_call i 0).kind ≡ refused n
  pub all-struck : (answer_at_call i 0).struck ≡ (answer_at_call i 0).admitted
  pub emptied : (answer_at_call i 0).waiting ≡ 0
  pub then-end : (k : ℕ) → (answer_at_call i (suc k)).kind ≡ end

unfoldable pub RefusedPainting : Input → Type 0
RefusedPainting i = (st : State) → open_walk i true ≡ opened st → (n : Refusal) → PaintingRefuses i n → GivenOnce i n
