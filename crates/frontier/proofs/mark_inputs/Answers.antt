-- `mark_inputs` meets its contract: the waiting commits, then the hidden tips from where these came to. Assumes nothing.
use Rattle.std.proofs.lemmas.Result.{err_from_is_err_and}
use Rattle.frontier.proofs.PaintAll.{marks_inputs, stops_inputs}
use Rattle.frontier.proofs.mark_inputs.Goals as goal

pub returns : goal.returns
returns c = marks_inputs c.requires.0 c.requires.1 c.empty_queue-p.ensures c.in_ok-shown.ensures c.mark_list.ensures

pub returns-in_err-shown : goal.returns-in_err-shown
returns-in_err-shown c = let p = err_from_is_err_and c.from_residual.result c.from_residual.ensures.1 in rw (p.1, p.2) (stops_inputs c.requires.0 c.requires.1 c.empty_queue-p.ensures c.in_err-shown.ensures)
