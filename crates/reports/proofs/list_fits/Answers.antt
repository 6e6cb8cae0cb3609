-- `list_fits` meets its contract: 1,024 ids have so many bytes. Assumes nothing.
use mathlib.Core.Path.{ap}
use Prim.Native.Nat.{ℕ, ◌*◌}
use lib.ListN.{length}
use lib.Dec.{leb}
use borrow.Author.Rules.{rules}
use Rattle.hash.proofs.width.Reads as width-reads
use Rattle.reports.proofs.list_fits.Goals as goal

pub returns : goal.returns
returns c = ap (λ (w : ℕ). leb (length c.args.list.now) (1024 * w)) c.width.ensures.0
