-- `entry_of` meets its contract: a number that was noted is of an entry under the id. Assumes nothing.
use native.Mathlib.Omega.{arith}
use borrow.Author.Rules.{rules}
use Rattle.memo.proofs.entry_of.Reads as reads
use Rattle.odb.proofs.try_find_noting.Reads as try-find-noting-reads
use Rattle.memo.proofs.entry_of.Goals as goal

-- src/lib.rt:80:1
pub returns : goal.returns
returns c = record { is = λ h. (c.try_find_noting.ensures.1.under (λ e. omega (arith, h, e))).is }
