-- `inplace::failed` meets its contract: a test that fails counts one. Assumes nothing.
use native.Mathlib.Omega.{arith}
use Rattle.inplace.proofs.failed.Goals as goal

pub returns-else-passed : goal.returns-else-passed
returns-else-passed c = (omega arith, λ e. absurd (omega (arith, e)))
