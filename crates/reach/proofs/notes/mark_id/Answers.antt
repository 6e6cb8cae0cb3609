-- `notes::mark_id` meets its contract: by the three answers of the table. Assumes nothing.
use Rattle.reach.proofs.Marked.{as-found, as-vacant, as-full}
use Rattle.reach.proofs.notes.mark_id.Goals as goal

pub returns-in-Found : goal.returns-in-Found
returns-in-Found c = as-found c.args.second _ c.with_bit-first.ensures c.insert-s.ensures c.in-Found.k c.in-Found.is c.raise.ensures

pub returns-in-Vacant : goal.returns-in-Vacant
returns-in-Vacant c = as-vacant c.args.second _ c.with_bit-first.ensures c.insert-s.ensures c.in-Vacant.k c.in-Vacant.is c.fresh.ensures

pub returns-in-Full : goal.returns-in-Full
returns-in-Full c = as-full c.args.second _ c.with_bit-first.ensures c.insert-s.ensures c.in-Full.is
