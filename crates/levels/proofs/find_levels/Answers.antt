-- `levels::find_levels` meets its contract: in a good store the ids rise, and the number of entries is the graph's. Assumes nothing.
use mathlib.Core.Path.{sym, ◌∙◌}
use Rattle.hash.specs.Bytes.{width_of}
use Rattle.levels.proofs.Stored.{good-rises, torn-store, good-store}
use Rattle.levels.proofs.find_levels.Goals as goal

pub returns-then-not-is_good : goal.returns-then-not-is_good
returns-then-not-is_good c = let x = c.args in torn-store (width_of x.kind) x.store.now x.levels.now (sym c.is_good.ensures ∙ c.if-not-is_good.true)

pub search_levels-requires : goal.search_levels-requires
search_levels-requires c = let x = c.args in
    good-rises (width_of x.kind) x.store.now (sym c.is_good.ensures ∙ c.if-not-is_good.false)

pub returns : goal.returns
returns c = let x = c.args in
    good-store (width_of x.kind) x.store.now x.levels.now _ c.count-n.result _ (sym c.is_good.ensures ∙ c.if-not-is_good.false) c.count-n.ensures c.search_levels.ensures
