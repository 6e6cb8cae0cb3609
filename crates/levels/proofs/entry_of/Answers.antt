-- `levels::entry_of` meets its contract: among rising ids the search finds the entry under the id, and else leaves n. Assumes nothing.
use Rattle.levels.specs.StoreGraph.{entry_of}
use Rattle.levels.proofs.entry_of.Goals as goal

pub returns : goal.returns
unfolding entry_of
returns c = c.try_find_noting.ensures.1.rises
