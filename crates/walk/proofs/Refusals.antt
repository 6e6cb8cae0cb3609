-- No two refusals have one number: the refusal is given back by its number. Assumes nothing.
use Rattle.std.specs.Prelude.{None, Option, Some}
use mathlib.Core.Path.{◌≡◌, refl, sym, ◌∙◌, ap}
use Prim.Native.Nat.{ℕ}
use mathlib.Core.List.{List, [], ◌∷◌}
use lib.ListN.{get_or}
use Rattle.hash.proofs.Tests.{some_in}
use Rattle.walk.specs.declared.Refusal.{Refusal}
use Rattle.walk.specs.declared.Refusal.TheVariants.{BufferTooSmall, InputTooLarge, PartialId, CorruptStore, UnknownGraph, CorruptGraph, TipNotFound, TipUnreadable, CommitNotFound, CommitUnreadable, TooManyParents, Closed, UnreadableReach, GraphAtOdds, PairNotFalling, FalseName, FalseChecksum, UnfitStore, UnfitSeconds, ShortOutput, ReadingTwice, ReadingUnreadable, TangledReach, BadTerms, TooManyMoves}
use Rattle.walk.specs.Refusals.{number_of}

-- by rising number, from 0; none where no refusal has the number
in_order : List (Option Refusal)
in_order =
    None ∷ Some BufferTooSmall ∷ Some InputTooLarge ∷ Some PartialId ∷ Some CorruptStore ∷ Some UnknownGraph ∷ Some CorruptGraph ∷ Some TipNotFound
    ∷ Some TipUnreadable ∷ Some CommitNotFound ∷ Some CommitUnreadable ∷ Some TooManyParents ∷ Some Closed ∷ Some UnreadableReach ∷ Some GraphAtOdds ∷ Some PairNotFalling
    ∷ Some FalseName ∷ Some FalseChecksum ∷ Some UnfitStore ∷ Some UnfitSeconds ∷ Some ShortOutput ∷ Some ReadingTwice ∷ Some ReadingUnreadable ∷ Some TangledReach
    ∷ Some BadTerms ∷ Some TooManyMoves
    ∷ []

number-back : (r : Refusal) → get_or in_order (number_of r) None ≡ Some r
unfolding in_order
number-back BufferTooSmall = refl
number-back InputTooLarge = refl
number-back PartialId = refl
number-back CorruptStore = refl
number-back UnknownGraph = refl
number-back CorruptGraph = refl
number-back TipNotFound = refl
number-back TipUnreadable = refl
number-back CommitNotFound = refl
number-back CommitUnreadable = refl
number-back TooManyParents = refl
number-back Closed = refl
number-back UnreadableReach = refl
number-back GraphAtOdds = refl
number-back PairNotFalling = refl
number-back FalseName = refl
number-back FalseChecksum = refl
number-back UnfitStore = refl
number-back UnfitSeconds = refl
number-back ShortOutput = refl
number-back ReadingTwice = refl
number-back ReadingUnreadable = refl
number-back TangledReach = refl
number-back BadTerms = refl
number-back TooManyMoves = refl

pub number-once : (r s : Refusal) → number_of r ≡ number_of s → r ≡ s
number-once r s e = some_in (sym (number-back r) ∙ ap (λ (n : ℕ). get_or in_order n None) e ∙ number-back s)
