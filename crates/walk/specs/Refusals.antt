-- The refusals of document 01 and of document 02's cards: the number of each case.
-- Assumes nothing.
use Rattle.std.specs.Prelude.{ℕ}
use Rattle.walk.specs.declared.Refusal.{Refusal}
use Rattle.walk.specs.declared.Refusal.TheVariants.{BufferTooSmall, InputTooLarge, PartialId, CorruptStore, UnknownGraph, CorruptGraph, TipNotFound, TipUnreadable, CommitNotFound, CommitUnreadable, TooManyParents, Closed, UnreadableReach, GraphAtOdds, PairNotFalling, FalseName, FalseChecksum, UnfitStore, UnfitSeconds, ShortOutput, ReadingTwice, ReadingUnreadable, TangledReach, BadTerms, TooManyMoves}

-- "no. | word | when"
abbrev pub number_of : Refusal → ℕ
number_of BufferTooSmall = 1  -- short memory: a lent buffer below its size
number_of InputTooLarge = 2  -- oversize: book or graph over 16,777,216 bytes, or a list over 1,024 ids (20,480 bytes)
number_of PartialId = 3  -- ragged list: list bytes not a multiple of 20
number_of CorruptStore = 4  -- torn book: the layout broken
number_of UnknownGraph = 5  -- foreign graph: first 8 bytes absent or other (C is free)
number_of CorruptGraph = 6  -- torn graph: the rest of its layout
number_of TipNotFound = 7  -- lost tip: time order, tip not in the book
number_of TipUnreadable = 8  -- blurred tip: its header not good through committer
number_of CommitNotFound = 9  -- lost commit: in neither file
number_of CommitUnreadable = 10  -- blurred commit: header line bad
number_of TooManyParents = 11  -- crowded commit: a good 257th parent line; of 10 and 11 the earlier line decides
number_of Closed = 12  -- closed: record closed, or memory touched
number_of UnreadableReach = 13  -- unreadable reach: a commit reachable from the tips that the book does not have readable (cards 1, 8, 12)
number_of GraphAtOdds = 14  -- graph at odds: a reached commit whose row has other parents, other seconds or a corrupt list (card 1)
number_of PairNotFalling = 15  -- pair not falling: from a reached commit to a parent of it (card 1)
number_of FalseName = 16  -- false name: an entry's id is not the digest of its body (card 2)
number_of FalseChecksum = 17  -- graph checksum false (card 2)
number_of UnfitStore = 18  -- unfit book: an entry is unreadable, a parent absent, or no levels satisfy the rule (card 4)
number_of UnfitSeconds = 19  -- seconds outside 0 to 17,179,869,183 (card 4)
number_of ShortOutput = 20  -- short output: the lent output is below the file (card 4)
number_of ReadingTwice = 21  -- reading given twice: two lines of one run with the same start (card 5)
number_of ReadingUnreadable = 22  -- reading unreadable: a line that starts so and goes on otherwise (card 5)
number_of TangledReach = 23  -- tangled reach: two tips have common commits and no best one (card 8)
number_of BadTerms = 24  -- bad term list: over 24 terms, out of order, overlapping, one that ends before it starts, or a month outside the table (card 9)
number_of TooManyMoves = 25  -- too many moves: over 12 (card 12)
