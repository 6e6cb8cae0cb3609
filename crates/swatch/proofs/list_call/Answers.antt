-- `list_call` meets its contract: a next call, and its line behind the others. Assumes nothing.
use mathlib.Core.Path.{refl}
use Rattle.swatch.proofs.Calls.{few-parents}
use Rattle.swatch.proofs.list_call.Goals as goal

pub returns : goal.returns
returns c =
    record {
      given = c.step-o.result;
      says = rw c.breadth_all.ensures at c.step-o.ensures;
      same_record = refl;
      left_is = c.calls_after.ensures;
      line = c.answer.ensures (few-parents c.step-o.ensures.of_paper);
    }
