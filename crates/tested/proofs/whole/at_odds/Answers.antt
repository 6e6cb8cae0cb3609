-- `whole::at_odds` meets its contract: the search that goes on tells whether all is readable. Assumes nothing.
use Rattle.std.proofs.lemmas.Result.{err_from_is_err_and}
use Rattle.tested.proofs.Decided.{odds-whole, odds-short}
use Rattle.tested.proofs.whole.at_odds.Goals as goal

pub returns : goal.returns
returns c = odds-whole c.search.ensures _ c.in_ok-search.was

pub returns-in_err-search : goal.returns-in_err-search
returns-in_err-search c =
    let p = err_from_is_err_and c.from_residual.result c.from_residual.ensures.1 in
    rw (p.1, p.2) (odds-short c.search.ensures _ c.in_err-search.was)
