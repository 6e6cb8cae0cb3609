-- End stays: a call says end only where nothing waits after the painting, and such a state answers every later call with end and stays as it is.
-- Assumes nothing.
use Rattle.std.specs.Prelude.{None, Option, Some}
use mathlib.Core.Logic.{⊎_elim}
use mathlib.Core.Path.{◌≡◌, refl, sym, ◌∙◌, ap, subst}
use Prim.Native.Nat.{ℕ, zero, suc, ◌≤◌}
use mathlib.Core.Bool.{Bool, true, cond}
use mathlib.Core.List.{[], ◌∷◌}
use native.Mathlib.Omega.{arith}
use native.Mathlib.Nat.{eq-or-lt_of_le}
use lib.IntN.{ℤ}
use Rattle.hash.specs.Bytes.{Id}
use Rattle.walk.specs.declared.Refusal.{Refusal}
use Rattle.walk.specs.declared.Refusal.TheVariants.{CommitNotFound, Closed}
use Rattle.walk.specs.State.{Walk, State}
use Rattle.walk.specs.Opening.{Input, walk_of, Opening, closed, opened, open_walk}
use Rattle.walk.specs.Next.{level_shown, end, refused, handed, Step, step, dropped, queued_seconds, ending, kind_of, take_queue, take_next, painted_with, first_call, next}
use Rattle.walk.specs.Calls.{calls, shut_calls, answers_from, answers, state_after, answer_on, answer_at_call}
use Rattle.walk.specs.Sums.{EndsBy, over}
use Rattle.walk.specs.AnyInput.{Lasts, EndStays}
use Rattle.walk.proofs.Moves.{Takes, nothing, absent, from-store, from_row, drops, Moves, later, unhidden, strikes, stops, moves}

-- nothing waits, after the painting
pub record Ended (st : State) : Type 0 where
  pub is-painted : st.painted ≡ true
  pub is-empty : st.queue ≡ []

pub ended-next : (v : Walk) (st : State) → Ended st → next v st ≡ step end [] st
unfolding next take_next take_queue
ended-next v st e = ap (λ (b : Bool). cond b (take_next v st) (first_call v st)) e.is-painted ∙ ap (take_queue v st) e.is-empty

-- ---- where a step says end

not-handed {ℓ} : {X : Type ℓ} (x : Id) (l : Option ℕ) (t : Option ℤ) → handed x l t ≡ end → X
not-handed x l t e = let z : ◌≡◌ {A = ℕ} 0 1 = cc in absurd (omega arith)

not-refused {ℓ} : {X : Type ℓ} (n : Refusal) → refused n ≡ end → X
not-refused n e = let z : ◌≡◌ {A = ℕ} 0 1 = cc in absurd (omega arith)

not-kind {ℓ} : {X : Type ℓ} (n : Option Refusal) (x : Id) (l : Option ℕ) (t : Option ℤ) → kind_of n (handed x l t) ≡ end → X
unfolding kind_of
not-kind None x l t e = not-handed x l t e
not-kind (Some r) x l t e = not-refused r e

-- then nothing waits, and it is as painted as before
takes_end : (v : Walk) {st : State} {r : Step} → Takes v st r → r.answer.kind ≡ end → (r.state.queue ≡ []) × (r.state.painted ≡ st.painted)
unfolding step dropped
takes_end v (nothing e) k = (e, refl)
takes_end v (absent x q e b) k = not-refused CommitNotFound k
takes_end v (from-store x q h e b) k = not-kind (ending v.settings h) x.0 None (queued_seconds v x.1) k
takes_end v (from_row x q ps l s e b) k = not-handed x.0 (level_shown l) (queued_seconds v x.1) k
takes_end v (drops x q e t) k = takes_end v t k

moves-end : (v : Walk) {st : State} {r : Step} → Moves v st r → r.answer.kind ≡ end → Ended r.state
unfolding step painted_with
moves-end v (later u t) k = let o = takes_end v t k in record { is-painted = o.1 ∙ u; is-empty = o.0 }
moves-end v (unhidden u t) k = let o = takes_end v t k in record { is-painted = o.1; is-empty = o.0 }
moves-end v (strikes p u e t) k = let o = takes_end v t k in record { is-painted = o.1; is-empty = o.0 }
moves-end v (stops n u e) k = not-refused n k

-- after an answer that says end
pub end-ended : (v : Walk) (st : State) → (next v st).answer.kind ≡ end → Ended (next v st).state
end-ended v st k = moves-end v (moves v st) k

-- ---- all calls

pub ended-calls : (v : Walk) (k : ℕ) (st : State) → Ended st → EndsBy 0 (calls v k st)
unfolding calls step
ended-calls v zero st e = EndsBy.no_call
ended-calls v (suc k) st e = subst (λ (r : Step). EndsBy 0 (r.answer ∷ calls v k r.state)) (sym (ended-next v st e)) (over refl (ended-calls v k st e))

pub calls_last : (v : Walk) (k : ℕ) (st : State) → Lasts (calls v k st)
unfolding calls
calls_last v zero st = Lasts.no_call
calls_last v (suc k) st = Lasts.call (λ e. ended-calls v k (next v st).state (end-ended v st e)) (calls_last v k (next v st).state)

shut-last : (k : ℕ) → Lasts (shut_calls k)
unfolding shut_calls
shut-last zero = Lasts.no_call
shut-last (suc k) = Lasts.call (λ e. not-refused Closed e) (shut-last k)

pub end_stays : (i : Input) → EndStays i
unfolding EndStays answers answers_from
end_stays i k = go (open_walk i true)
  where
    go : (o : Opening) → Lasts (answers_from (walk_of i) k o)
    go (closed n) = shut-last k
    go (opened st) = calls_last (walk_of i) k st

-- ---- call by call

later_ends : (i : Input) (k m : ℕ) → k ≤ m → (next (walk_of i) (state_after i k)).answer.kind ≡ end → (next (walk_of i) (state_after i m)).answer.kind ≡ end
unfolding state_after step
later_ends i k zero l e = let z : k ≡ 0 = omega arith in subst (λ (n : ℕ). (next (walk_of i) (state_after i n)).answer.kind ≡ end) z e
later_ends i k (suc m) l e =
    ⊎_elim
    (λ h. subst (λ (n : ℕ). (next (walk_of i) (state_after i n)).answer.kind ≡ end) h e)
    (λ h. ap (λ (r : Step). r.answer.kind)
    (ended-next (walk_of i) (state_after i (suc m)) (end-ended (walk_of i) (state_after i m) (later_ends i k m (omega (arith, h)) e))))
    (eq-or-lt_of_le l)

-- if call k says end, so does every later call m
pub stays-from : (i : Input) (k m : ℕ) → k ≤ m → (answer_at_call i k).kind ≡ end → (answer_at_call i m).kind ≡ end
unfolding answer_at_call answer_on
stays-from i k m l = go (open_walk i true)
  where
    go : (o : Opening) → (answer_on (walk_of i) (state_after i k) o).kind ≡ end → (answer_on (walk_of i) (state_after i m) o).kind ≡ end
    go (closed r) e = not-refused Closed e
    go (opened st) e = later_ends i k m l e
