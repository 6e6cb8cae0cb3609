-- `part_tips` meets its contract: by what the first search comes to, which begins in cleared memory. Assumes nothing.
use Rattle.std.proofs.lemmas.Result.{err_from_is_err_and}
use Rattle.mergebase.proofs.Partings.{tips-whole, tips-short}
use Rattle.mergebase.proofs.part_tips.Goals as goal

pub returns : goal.returns
returns c = tips-whole c.clear.ensures c.search_from.ensures _ c.in_ok-n.was c.search_from.auto.line c.part_from.ensures

pub returns-in_err-n : goal.returns-in_err-n
returns-in_err-n c =
    let p = err_from_is_err_and c.from_residual.result c.from_residual.ensures.1 in
    rw (p.1, p.2) (tips-short c.clear.ensures c.search_from.ensures _ c.in_err-n.was)
