-- `lowering::all_new` meets its contract: the difference is compared. Assumes nothing.
use mathlib.Core.Path.{refl}
use native.Mathlib.Omega.{arith}
use Rattle.hash.proofs.Tests.{clash}
use Rattle.falling.proofs.lowering.all_new.Goals as goal

pub returns-then-m-n : goal.returns-then-m-n
returns-then-m-n c = λ q. clash q refl

pub returns-then-m-n-2 : goal.returns-then-m-n-2
returns-then-m-n-2 c = λ q. omega (arith, c.if-m-n.false, c.if-m-n-2.true)

pub returns : goal.returns
returns c = λ q. clash q refl
