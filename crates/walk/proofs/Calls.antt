-- The answers to k calls, one after the other, are the answers of calls 0 to k − 1: each call starts from the state that the one before
-- left. Assumes nothing.
use mathlib.Core.Path.{◌≡◌, refl, sym, ◌∙◌, ap}
use Prim.Native.Nat.{ℕ, zero, suc}
use mathlib.Core.Bool.{true}
use mathlib.Core.List.{List, ◌∷◌}
use Rattle.walk.specs.State.{Walk, State}
use Rattle.walk.specs.Opening.{Input, walk_of, Opening, closed, opened, open_walk}
use Rattle.walk.specs.Next.{Answer, next}
use Rattle.walk.specs.Calls.{state_of, state_after, shut, answer_on, answer_at_call, calls, shut_calls, answers_from, answers, up_to}

up_to-same : {A : Type 0} (f g : ℕ → A) → ((n : ℕ) → f n ≡ g n) → (k : ℕ) → up_to f k ≡ up_to g k
unfolding up_to
up_to-same f g e zero = refl
up_to-same f g e (suc k) = ap (λ (a : _). a ∷ up_to (λ n. f (suc n)) k) (e zero) ∙ ap (λ (l : List _). g zero ∷ l) (up_to-same (λ n. f (suc n)) (λ n. g (suc n)) (λ n. e (suc n)) k)

-- the state after n calls from a state
unfoldable pub after : Walk → State → ℕ → State
after v st zero = st
after v st (suc n) = (next v (after v st n)).state

after_first : (v : Walk) (st : State) (n : ℕ) → after v st (suc n) ≡ after v (next v st).state n
unfolding after
after_first v st zero = refl
after_first v st (suc n) = ap (λ (q : State). (next v q).state) (after_first v st n)

calls_at : (v : Walk) (k : ℕ) (st : State) → calls v k st ≡ up_to (λ n. (next v (after v st n)).answer) k
unfolding calls up_to after
calls_at v zero st = refl
calls_at v (suc k) st =
    ap (λ (l : List Answer). (next v st).answer ∷ l)
    (calls_at v k (next v st).state
    ∙ up_to-same (λ n. (next v (after v (next v st).state n)).answer) (λ n. (next v (after v st (suc n))).answer)
    (λ n. ap (λ (q : State). (next v q).answer) (sym (after_first v st n))) k)

shut_at : (k : ℕ) → shut_calls k ≡ up_to (λ n. shut) k
unfolding shut_calls up_to
shut_at zero = refl
shut_at (suc k) = ap (λ (l : List Answer). shut ∷ l) (shut_at k)

-- the state after n calls of an accepted opening
pub state-after : (i : Input) (st : State) → open_walk i true ≡ opened st → (n : ℕ) → state_after i n ≡ after (walk_of i) st n
unfolding state_after state_of after
state-after i st e zero = ap state_of e
state-after i st e (suc n) = ap (λ (q : State). (next (walk_of i) q).state) (state-after i st e n)

pub answers_at : (i : Input) (k : ℕ) → answers i k ≡ up_to (answer_at_call i) k
unfolding answers answer_at_call answers_from answer_on
answers_at i k = go (open_walk i true) refl
  where
    go : (o : Opening) → open_walk i true ≡ o → answers_from (walk_of i) k o ≡ up_to (λ n. answer_on (walk_of i) (state_after i n) o) k
    go (closed r) e = shut_at k
    go (opened st) e =
        calls_at (walk_of i) k st
        ∙ up_to-same (λ n. (next (walk_of i) (after (walk_of i) st n)).answer) (λ n. (next (walk_of i) (state_after i n)).answer)
        (λ n. ap (λ (q : State). (next (walk_of i) q).answer) (sym (state-after i st e n))) k
