-- `seek::search_from` meets its contract: the search begins with the roots noted. Assumes nothing.
use Rattle.reach.proofs.Starting.{from-count, from-none}
use Rattle.reach.proofs.seek.search_from.Goals as goal

pub returns : goal.returns
returns c = from-count c.note_list-begun.ensures c.in-Some.is c.search.ensures

pub returns-in_default : goal.returns-in_default
returns-in_default c = from-none c.note_list-begun.ensures c.args.store.now c.in_default.is
