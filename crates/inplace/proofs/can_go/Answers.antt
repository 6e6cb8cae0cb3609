-- `inplace::can_go` meets its contract: the tests that failed are counted, and where there are none each of them held. Assumes nothing.
use Prim.Native.Nat.{◌+◌}
use native.Mathlib.Omega.{arith}
use borrow.Author.Tests.{eqb-true}
use Rattle.inplace.proofs.can_go.Goals as goal

pub returns : goal.returns
returns c = λ e.
    let z = eqb-true (c.failed.result + c.failed-2.result + c.failed-3.result + c.failed-whole.result + c.failed-4.result) 0 e in
    let words = c.is_plain.ensures (c.failed.ensures.1 (omega (arith, z))) in
    record {
      answer = c.is_whole.result;
      whole = c.is_whole.ensures;
      is_whole = c.failed-whole.ensures.1 (omega (arith, z));
      painted = c.failed-2.ensures.1 (omega (arith, z));
      kept = c.failed-3.ensures.1 (omega (arith, z));
      long = words.0;
      plain = words.1;
    }
