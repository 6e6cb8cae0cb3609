-- `settled` meets its contract: known, on the list, no move left, or open. Assumes nothing.
use Rattle.walk.specs.Opening.{list_ids}
use Rattle.moves.proofs.Judging.{settled-known, settled-listed, settled-still, settled-open}
use borrow.Author.Rules.{rules}
use Rattle.moves.proofs.settled.Reads as reads
use Rattle.memo.proofs.recall.Reads as recall-reads
use Rattle.moves.proofs.is_listed.Reads as is-listed-reads
use Rattle.hash.specs.Bytes.{width_of}
use Rattle.moves.proofs.settled.Goals as goal

-- src/lib.rt:42:9
pub returns-then-known-ne0 : goal.returns-then-known-ne0
returns-then-known-ne0 c = let x = c.args in λ e. settled-known (width_of x.kind) x.store.now (list_ids (width_of x.kind) x.list.now) e x.k x.bed x.d c.recall-known.ensures c.if-known-ne0.true

-- src/lib.rt:45:9
pub returns-then-is_listed : goal.returns-then-is_listed
returns-then-is_listed c = let x = c.args in λ e. settled-listed (width_of x.kind) x.store.now (list_ids (width_of x.kind) x.list.now) e x.k x.bed x.d (c.is_listed.ensures e) c.if-is_listed.true

-- src/lib.rt:48:9
pub returns-then-d-eq0 : goal.returns-then-d-eq0
returns-then-d-eq0 c = let x = c.args in λ e. settled-still (width_of x.kind) x.store.now (list_ids (width_of x.kind) x.list.now) e x.k x.bed x.d (c.is_listed.ensures e) c.if-is_listed.false c.if-d-eq0.true

-- src/lib.rt:28:1
pub returns : goal.returns
returns c = let x = c.args in λ e. settled-open (width_of x.kind) x.store.now (list_ids (width_of x.kind) x.list.now) e x.k x.bed x.d (c.is_listed.ensures e) c.if-is_listed.false c.if-d-eq0.false
