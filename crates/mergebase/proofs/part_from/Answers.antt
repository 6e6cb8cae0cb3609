-- `part_from` meets its contract: by what the second search comes to. Assumes nothing.
use Rattle.std.proofs.lemmas.Result.{err_from_is_err_and}
use Rattle.mergebase.proofs.Partings.{from-whole, from-short}
use Rattle.mergebase.proofs.part_from.Goals as goal

pub returns : goal.returns
returns c = from-whole c.search_from.ensures _ c.in_ok-search_from.was c.best_of.ensures

pub returns-in_err-search_from : goal.returns-in_err-search_from
returns-in_err-search_from c =
    let p = err_from_is_err_and c.from_residual.result c.from_residual.ensures.1 in
    rw (p.1, p.2) (from-short c.search_from.ensures _ c.in_err-search_from.was)
