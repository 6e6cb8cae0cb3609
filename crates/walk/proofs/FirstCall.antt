-- Only the first call paints: every call leaves the state painted, so a state that is not painted is the one that the opening left.
-- Assumes nothing.
use mathlib.Core.Path.{◌≡◌, refl, ◌∙◌}
use Prim.Native.Nat.{ℕ, zero, suc}
use mathlib.Core.Bool.{true, false}
use Rattle.walk.specs.State.{Walk, State, with_queue}
use Rattle.walk.specs.Opening.{Input, walk_of}
use Rattle.walk.specs.Next.{Step, step, dropped, painted_with, next}
use Rattle.walk.specs.Calls.{state_after}
use Rattle.hash.proofs.Tests.{clash}
use Rattle.walk.proofs.Visits.{visit_all-painted}
use Rattle.walk.proofs.Moves.{Takes, nothing, absent, from-store, from_row, drops, Moves, later, unhidden, strikes, stops, moves}

takes_painted : (v : Walk) {st : State} {r : Step} → Takes v st r → r.state.painted ≡ st.painted
unfolding step with_queue dropped
takes_painted v (nothing e) = refl
takes_painted v (absent x q e k) = refl
takes_painted v {st} (from-store x q h e k) = visit_all-painted v _ (with_queue q st)
takes_painted v {st} (from_row x q ps l s e k) = visit_all-painted v _ (with_queue q st)
takes_painted v (drops x q e t) = takes_painted v t

moves-painted : (v : Walk) {st : State} {r : Step} → Moves v st r → r.state.painted ≡ true
unfolding step painted_with
moves-painted v (later u t) = takes_painted v t ∙ u
moves-painted v (unhidden u t) = takes_painted v t
moves-painted v (strikes p u e t) = takes_painted v t
moves-painted v (stops n u e) = refl

pub paints : (v : Walk) (st : State) → (next v st).state.painted ≡ true
paints v st = moves-painted v (moves v st)

-- a state that is not painted is the first
pub only-first : (i : Input) (k : ℕ) → (state_after i k).painted ≡ false → k ≡ 0
unfolding state_after
only-first i zero e = refl
only-first i (suc k) e = clash (paints (walk_of i) (state_after i k)) e
