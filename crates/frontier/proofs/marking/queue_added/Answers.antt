-- `marking::queue_added` meets its contract: the slot has gained the marks and is queued, and what that makes of the memory is a law. Assumes nothing.
use Rattle.std.proofs.lemmas.Result.{err_from_is_err_and}
use mathlib.Core.Path.{refl}
use Rattle.frontier.proofs.MarkAnswers.{marks-at, marks-not}
use Rattle.frontier.proofs.marking.queue_added.Goals as goal

pub returns : goal.returns
returns c = record { right = λ names marks names' marks' cap bits a. marks-at (c.in_ok-slot.ensures.right names marks names' marks' cap bits a) _ refl c.queue_slot.ensures }

pub returns-in_err-slot : goal.returns-in_err-slot
returns-in_err-slot c = let p = err_from_is_err_and c.from_residual.result c.from_residual.ensures.1 in rw (p.1, p.2) (record { right = λ names marks names' marks' cap bits a. marks-not (c.in_err-slot.ensures.right names marks names' marks' cap bits a) _ refl })
