-- `odb::stands` meets its contract. A store under 8 bytes fails the first test; else the sum of the two numbers is the second test. Assumes
-- nothing.
use Prim.Native.Nat.{◌+◌}
use native.Mathlib.Omega.{arith}
use Rattle.hash.proofs.Widths.{times-most}
use Rattle.odb.specs.Store.{standing}
use borrow.Author.Tests.{lt-leb, le-leb}
use borrow.Author.Rules.{rules}
use Rattle.odb.proofs.stands.Goals as goal

pub returns-then-store-lt-TRAILER_BYTES : goal.returns-then-store-lt-TRAILER_BYTES
unfolding standing
returns-then-store-lt-TRAILER_BYTES c = rw (lt-leb _ _ c.if-store-lt-TRAILER_BYTES.true)

pub overflow_mul-result : goal.overflow_mul-result
overflow_mul-result c = omega (arith, times-most (c.args.w + 4) 36 c.entries_said.result 4294967296 (omega arith) (omega arith))

pub overflow_add-result-2 : goal.overflow_add-result-2
overflow_add-result-2 c = omega (arith, times-most (c.args.w + 4) 36 c.entries_said.result 4294967296 (omega arith) (omega arith))

pub overflow_add-result-3 : goal.overflow_add-result-3
overflow_add-result-3 c = omega (arith, times-most (c.args.w + 4) 36 c.entries_said.result 4294967296 (omega arith) (omega arith))

pub returns : goal.returns
unfolding standing
returns c = rw (le-leb _ _ c.if-store-lt-TRAILER_BYTES.false, c.entries_start.ensures.0, c.entries_said.ensures.0)
