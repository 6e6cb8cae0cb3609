-- `trace` meets its contract: refused with nothing altered, or answered by its steps. Assumes nothing.
use mathlib.Core.Path.{refl}
use Rattle.std.proofs.lemmas.Result.{err_from_is_err_and}
use Rattle.trace.proofs.Answering.{call-refused, call-answers}
use Rattle.hash.specs.Bytes.{width_of}
use Rattle.trace.proofs.trace.Goals as goal

-- src/lib.rt:119:1
pub returns-in_err-check : goal.returns-in_err-check
returns-in_err-check c =
    let x = c.args in
    let p = err_from_is_err_and c.from_residual.result c.from_residual.ensures.1 in
    rw (p.1, p.2) (call-refused (width_of x.kind) x.store.now x.list.now x.d _ x.memo.now c.check.ensures _ c.in_err-check.was refl)

-- src/lib.rt:119:1
pub returns : goal.returns
returns c = let x = c.args in call-answers (width_of x.kind) x.store.now x.list.now x.d _ x.memo.now c.check.ensures c.in_ok-check.was c.trace_checked.ensures
