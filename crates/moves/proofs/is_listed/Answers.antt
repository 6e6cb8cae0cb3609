-- `is_listed` meets its contract: what is known is so, and what is looked up is noted. Assumes nothing.
use Rattle.walk.specs.Opening.{list_ids}
use Rattle.moves.proofs.Judging.{listed-known, listed-new}
use borrow.Author.Rules.{rules}
use Rattle.moves.proofs.is_listed.Reads as reads
use Rattle.memo.proofs.note.Reads as note-reads
use Rattle.memo.proofs.recall.Reads as recall-reads
use Rattle.reading.proofs.is_among.Reads as is-among-reads
use Rattle.hash.specs.Bytes.{width_of}
use Rattle.moves.proofs.is_listed.Goals as goal

-- src/lib.rt:20:9
pub returns-then-known-ne0 : goal.returns-then-known-ne0
returns-then-known-ne0 c = let x = c.args in λ e. listed-known (width_of x.kind) x.store.now (list_ids (width_of x.kind) x.list.now) e x.k c.recall-known.ensures c.if-known-ne0.true

-- src/lib.rt:15:1
pub returns : goal.returns
returns c = let x = c.args in λ e. listed-new (width_of x.kind) x.store.now (list_ids (width_of x.kind) x.list.now) e x.k c.is_among-listed.ensures c.note.ensures
