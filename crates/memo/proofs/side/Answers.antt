-- `side` meets its contract: by the bench. Assumes nothing.
use Rattle.memo.proofs.Cells.{side_bed, side_cone}
use borrow.Author.Rules.{rules}
use Rattle.memo.proofs.side.Reads as reads
use Rattle.memo.proofs.side.Goals as goal

-- src/lib.rt:22:1
pub returns-then-bed : goal.returns-then-bed
returns-then-bed c = side_bed c.args.bed c.args.d c.requires c.if-bed.true

-- src/lib.rt:22:1
pub returns-else-bed : goal.returns-else-bed
returns-else-bed c = side_cone c.args.bed c.args.d c.requires c.if-bed.false
