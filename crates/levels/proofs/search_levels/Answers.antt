-- `levels::search_levels` meets its contract: each turn leaves fewer turns, and the last one tells the answer. Assumes nothing.
use native.Mathlib.Omega.{arith}
use mathlib.Core.Path.{refl, ◌∙◌}
use Rattle.hash.specs.Bytes.{width_of}
use Rattle.levels.specs.StoreGraph.{store_graph}
use Rattle.levels.proofs.Whole.{going_begins, going_on, going_less, levels-few, levels-many, levels-all, levels-none}
use Rattle.levels.proofs.search_levels.Goals as goal

pub returns-then-levels-n : goal.returns-then-levels-n
returns-then-levels-n c = let x = c.args in
    let g = store_graph (width_of x.kind) x.store.now x.n in
    levels-few g x.levels.now c.if-levels-n.true

pub returns-then-n-gt-MOST_NODES : goal.returns-then-n-gt-MOST_NODES
returns-then-n-gt-MOST_NODES c = let x = c.args in
    let g = store_graph (width_of x.kind) x.store.now x.n in
    levels-many g x.levels.now c.if-levels-n.false c.if-n-gt-MOST_NODES.true

pub loop-a-init : goal.loop-a-init
loop-a-init c = let x = c.args in
    let g = store_graph (width_of x.kind) x.store.now x.n in
    let y = going_begins g _ _ c.if-n-gt-MOST_NODES.false c.clear.ensures c.clear.auto.levels in
    record { search' = y.search'; kept = λ k h. refl; size = refl }

pub take_turn-requires : goal.take_turn-requires
take_turn-requires c = (c.loop-a.invariant.search'.fits, omega (arith, c.loop-a.invariant.size, c.clear.auto.levels, c.if-levels-n.false), c.requires)

pub loop-a-smaller : goal.loop-a-smaller
loop-a-smaller c = going_less _ _ c.loop-a.invariant c.take_turn.ensures c.in-On.is

pub loop-a-preserved : goal.loop-a-preserved
loop-a-preserved c = going_on _ _ c.loop-a.invariant c.take_turn.ensures c.take_turn.auto.levels c.in-On.is

pub shape_of-levels-in-All : goal.shape_of-levels-in-All
shape_of-levels-in-All c = c.take_turn.auto.levels ∙ c.loop-a.invariant.size ∙ c.clear.auto.levels

pub returns-in-All : goal.returns-in-All
returns-in-All c = levels-all c.if-levels-n.false c.clear.ensures c.loop-a.invariant c.take_turn.ensures c.in-All.is

pub shape_of-levels-in-Unfit : goal.shape_of-levels-in-Unfit
shape_of-levels-in-Unfit c = c.take_turn.auto.levels ∙ c.loop-a.invariant.size ∙ c.clear.auto.levels

pub returns-in-Unfit : goal.returns-in-Unfit
returns-in-Unfit c = levels-none c.if-levels-n.false c.clear.ensures c.loop-a.invariant c.take_turn.ensures c.in-Unfit.is
