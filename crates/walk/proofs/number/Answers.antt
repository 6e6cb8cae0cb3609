-- `walk::number` meets its contract: at each case the number is the table's. Assumes nothing.
use mathlib.Core.Path.{sym, ap}
use Rattle.walk.specs.Refusals.{number_of}
use Rattle.walk.proofs.number.Goals as goal

pub returns-in-BufferTooSmall : goal.returns-in-BufferTooSmall
returns-in-BufferTooSmall c = sym (ap number_of c.in-BufferTooSmall.is)

pub returns-in-InputTooLarge : goal.returns-in-InputTooLarge
returns-in-InputTooLarge c = sym (ap number_of c.in-InputTooLarge.is)

pub returns-in-PartialId : goal.returns-in-PartialId
returns-in-PartialId c = sym (ap number_of c.in-PartialId.is)

pub returns-in-CorruptStore : goal.returns-in-CorruptStore
returns-in-CorruptStore c = sym (ap number_of c.in-CorruptStore.is)

pub returns-in-UnknownGraph : goal.returns-in-UnknownGraph
returns-in-UnknownGraph c = sym (ap number_of c.in-UnknownGraph.is)

pub returns-in-CorruptGraph : goal.returns-in-CorruptGraph
returns-in-CorruptGraph c = sym (ap number_of c.in-CorruptGraph.is)

pub returns-in-TipNotFound : goal.returns-in-TipNotFound
returns-in-TipNotFound c = sym (ap number_of c.in-TipNotFound.is)

pub returns-in-TipUnreadable : goal.returns-in-TipUnreadable
returns-in-TipUnreadable c = sym (ap number_of c.in-TipUnreadable.is)

pub returns-in-CommitNotFound : goal.returns-in-CommitNotFound
returns-in-CommitNotFound c = sym (ap number_of c.in-CommitNotFound.is)

pub returns-in-CommitUnreadable : goal.returns-in-CommitUnreadable
returns-in-CommitUnreadable c = sym (ap number_of c.in-CommitUnreadable.is)

pub returns-in-TooManyParents : goal.returns-in-TooManyParents
returns-in-TooManyParents c = sym (ap number_of c.in-TooManyParents.is)

pub returns-in-Closed : goal.returns-in-Closed
returns-in-Closed c = sym (ap number_of c.in-Closed.is)

pub returns-in-UnreadableReach : goal.returns-in-UnreadableReach
returns-in-UnreadableReach c = sym (ap number_of c.in-UnreadableReach.is)

pub returns-in-GraphAtOdds : goal.returns-in-GraphAtOdds
returns-in-GraphAtOdds c = sym (ap number_of c.in-GraphAtOdds.is)

pub returns-in-PairNotFalling : goal.returns-in-PairNotFalling
returns-in-PairNotFalling c = sym (ap number_of c.in-PairNotFalling.is)

pub returns-in-FalseName : goal.returns-in-FalseName
returns-in-FalseName c = sym (ap number_of c.in-FalseName.is)

pub returns-in-FalseChecksum : goal.returns-in-FalseChecksum
returns-in-FalseChecksum c = sym (ap number_of c.in-FalseChecksum.is)

pub returns-in-UnfitStore : goal.returns-in-UnfitStore
returns-in-UnfitStore c = sym (ap number_of c.in-UnfitStore.is)

pub returns-in-UnfitSeconds : goal.returns-in-UnfitSeconds
returns-in-UnfitSeconds c = sym (ap number_of c.in-UnfitSeconds.is)

pub returns-in-ShortOutput : goal.returns-in-ShortOutput
returns-in-ShortOutput c = sym (ap number_of c.in-ShortOutput.is)

pub returns-in-ReadingTwice : goal.returns-in-ReadingTwice
returns-in-ReadingTwice c = sym (ap number_of c.in-ReadingTwice.is)

pub returns-in-ReadingUnreadable : goal.returns-in-ReadingUnreadable
returns-in-ReadingUnreadable c = sym (ap number_of c.in-ReadingUnreadable.is)

pub returns-in-TangledReach : goal.returns-in-TangledReach
returns-in-TangledReach c = sym (ap number_of c.in-TangledReach.is)

pub returns-in-BadTerms : goal.returns-in-BadTerms
returns-in-BadTerms c = sym (ap number_of c.in-BadTerms.is)

pub returns-in-TooManyMoves : goal.returns-in-TooManyMoves
returns-in-TooManyMoves c = sym (ap number_of c.in-TooManyMoves.is)
