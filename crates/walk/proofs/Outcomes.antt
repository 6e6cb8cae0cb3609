-- Each refusal, and each outcome of a call and of an opening, has a number of its own: it is read back from its number. Assumes nothing.
use Rattle.std.specs.Prelude.{Err, Ok, Result}
use Prim.Native.Nat.{ℕ, ◌<◌}
use mathlib.Core.Path.{◌≡◌, refl, sym, ◌∙◌, ap}
use mathlib.Core.Bool.{cond}
use lib.Dec.{eqb}
use borrow.Author.Tests.{ne_eqb}
use native.Mathlib.Omega.{arith}
use Rattle.walk.specs.declared.Refusal.{Refusal}
use Rattle.walk.specs.declared.Refusal.TheVariants.{BufferTooSmall, InputTooLarge, PartialId, CorruptStore, UnknownGraph, CorruptGraph, TipNotFound, TipUnreadable, CommitNotFound, CommitUnreadable, TooManyParents, Closed, UnreadableReach, GraphAtOdds, PairNotFalling, FalseName, FalseChecksum, UnfitStore, UnfitSeconds, ShortOutput, ReadingTwice, ReadingUnreadable, TangledReach, BadTerms, TooManyMoves}
use Rattle.walk.specs.declared.Outcome.{Outcome}
use Rattle.walk.specs.declared.Outcome.TheVariants.{Commit, End, Refused}
use Rattle.walk.specs.Refusals.{number_of}
use Rattle.walk.specs.Given.{outcome_number, open_number}

-- no refusal is 0, and none comes up to the end's 100
pub refusal_number_between : (r : Refusal) → (0 < number_of r) × (number_of r < 100)
refusal_number_between BufferTooSmall = (omega arith, omega arith)
refusal_number_between InputTooLarge = (omega arith, omega arith)
refusal_number_between PartialId = (omega arith, omega arith)
refusal_number_between CorruptStore = (omega arith, omega arith)
refusal_number_between UnknownGraph = (omega arith, omega arith)
refusal_number_between CorruptGraph = (omega arith, omega arith)
refusal_number_between TipNotFound = (omega arith, omega arith)
refusal_number_between TipUnreadable = (omega arith, omega arith)
refusal_number_between CommitNotFound = (omega arith, omega arith)
refusal_number_between CommitUnreadable = (omega arith, omega arith)
refusal_number_between TooManyParents = (omega arith, omega arith)
refusal_number_between Closed = (omega arith, omega arith)
refusal_number_between UnreadableReach = (omega arith, omega arith)
refusal_number_between GraphAtOdds = (omega arith, omega arith)
refusal_number_between PairNotFalling = (omega arith, omega arith)
refusal_number_between FalseName = (omega arith, omega arith)
refusal_number_between FalseChecksum = (omega arith, omega arith)
refusal_number_between UnfitStore = (omega arith, omega arith)
refusal_number_between UnfitSeconds = (omega arith, omega arith)
refusal_number_between ShortOutput = (omega arith, omega arith)
refusal_number_between ReadingTwice = (omega arith, omega arith)
refusal_number_between ReadingUnreadable = (omega arith, omega arith)
refusal_number_between TangledReach = (omega arith, omega arith)
refusal_number_between BadTerms = (omega arith, omega arith)
refusal_number_between TooManyMoves = (omega arith, omega arith)

-- ---- read back

refusal_of : ℕ → Refusal
refusal_of n =
    cond (eqb n 1) BufferTooSmall (cond (eqb n 2) InputTooLarge (cond (eqb n 3) PartialId (cond (eqb n 4) CorruptStore (cond (eqb n 5) UnknownGraph (cond (eqb n 6) CorruptGraph
    (cond (eqb n 7) TipNotFound (cond (eqb n 8) TipUnreadable (cond (eqb n 9) CommitNotFound (cond (eqb n 10) CommitUnreadable (cond (eqb n 11) TooManyParents (cond (eqb n 12) Closed
    (cond (eqb n 13) UnreadableReach (cond (eqb n 14) GraphAtOdds (cond (eqb n 15) PairNotFalling (cond (eqb n 16) FalseName (cond (eqb n 17) FalseChecksum (cond (eqb n 18) UnfitStore
    (cond (eqb n 19) UnfitSeconds (cond (eqb n 20) ShortOutput (cond (eqb n 21) ReadingTwice (cond (eqb n 22) ReadingUnreadable (cond (eqb n 23) TangledReach
    (cond (eqb n 24) BadTerms TooManyMoves)))))))))))))))))))))))

refusal-back : (r : Refusal) → refusal_of (number_of r) ≡ r
unfolding refusal_of
refusal-back BufferTooSmall = refl
refusal-back InputTooLarge = refl
refusal-back PartialId = refl
refusal-back CorruptStore = refl
refusal-back UnknownGraph = refl
refusal-back CorruptGraph = refl
refusal-back TipNotFound = refl
refusal-back TipUnreadable = refl
refusal-back CommitNotFound = refl
refusal-back CommitUnreadable = refl
refusal-back TooManyParents = refl
refusal-back Closed = refl
refusal-back UnreadableReach = refl
refusal-back GraphAtOdds = refl
refusal-back PairNotFalling = refl
refusal-back FalseName = refl
refusal-back FalseChecksum = refl
refusal-back UnfitStore = refl
refusal-back UnfitSeconds = refl
refusal-back ShortOutput = refl
refusal-back ReadingTwice = refl
refusal-back ReadingUnreadable = refl
refusal-back TangledReach = refl
refusal-back BadTerms = refl
refusal-back TooManyMoves = refl

outcome_at : ℕ → Outcome
outcome_at n = cond (eqb n 0) Commit (cond (eqb n 100) End (Refused (refusal_of n)))

outcome-back : (o : Outcome) → outcome_at (outcome_number o) ≡ o
unfolding outcome_at
outcome-back Commit = refl
outcome-back End = refl
outcome-back (Refused r) =
    let b = refusal_number_between r in
    simp (ne_eqb (number_of r) 0 (λ e. omega (arith, b.0)), ne_eqb (number_of r) 100 (λ e. omega (arith, b.1))) (ap Refused (refusal-back r))

-- an opening's outcome beside a call's: the same numbers
call_of : Result (Unit {0}) Refusal → Outcome
call_of (Ok _) = Commit
call_of (Err r) = Refused r

as_call : (o : Result (Unit {0}) Refusal) → outcome_number (call_of o) ≡ open_number o
unfolding call_of
as_call (Ok _) = refl
as_call (Err r) = refl

-- ---- so no two have the same

pub refusal_number_own : (r s : Refusal) → number_of r ≡ number_of s → r ≡ s
refusal_number_own r s h = sym (refusal-back r) ∙ ap refusal_of h ∙ refusal-back s

pub outcome_number-own : (o p : Outcome) → outcome_number o ≡ outcome_number p → o ≡ p
outcome_number-own o p h = sym (outcome-back o) ∙ ap outcome_at h ∙ outcome-back p

as_call_own : (o p : Result (Unit {0}) Refusal) → call_of o ≡ call_of p → o ≡ p
unfolding call_of
as_call_own (Ok _) (Ok _) h = refl
as_call_own (Ok _) (Err s) h = let z : ◌≡◌ {A = ℕ} 0 1 = cc in absurd (omega arith)
as_call_own (Err r) (Ok _) h = let z : ◌≡◌ {A = ℕ} 0 1 = cc in absurd (omega arith)
as_call_own (Err r) (Err s) h = let e : r ≡ s = cc in ap Err e

pub open_number-own : (o p : Result (Unit {0}) Refusal) → open_number o ≡ open_number p → o ≡ p
open_number-own o p h = as_call_own o p (outcome_number-own (call_of o) (call_of p) (as_call o ∙ h ∙ sym (as_call p)))
