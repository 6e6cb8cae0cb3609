-- `paint_from` meets its contract: the marks that painting begins with, and the turns from where these came to. Assumes nothing.
use Rattle.std.proofs.lemmas.Result.{err_from_is_err_and}
use Rattle.frontier.proofs.PaintAll.{paints_from, stops_from}
use Rattle.frontier.proofs.paint_from.Goals as goal

pub returns : goal.returns
returns c = paints_from c.in_ok-both.ensures c.turns.ensures

pub returns-in_err-both : goal.returns-in_err-both
returns-in_err-both c = let p = err_from_is_err_and c.from_residual.result c.from_residual.ensures.1 in rw (p.1, p.2) (stops_from c.in_err-both.ensures)
