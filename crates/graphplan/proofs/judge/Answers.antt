-- `graphplan::judge` meets its contract: the tests stand in the order of the refusals. Assumes nothing.
use native.Mathlib.Omega.{arith}
use borrow.Author.Rules.{rules}
use Rattle.hash.specs.Bytes.{width_of}
use Rattle.hash.proofs.Widths.{width_least}
use Rattle.graphplan.proofs.Planning.{few-entries, plan_large, plan-refused, plan-rows}
use Rattle.graphplan.proofs.judge.Goals as goal

pub returns-then-store-gt-MOST_BYTES : goal.returns-then-store-gt-MOST_BYTES
returns-then-store-gt-MOST_BYTES c = let x = c.args in plan_large (width_of x.kind) x.store.now x.levels.now c.if-store-gt-MOST_BYTES.true

pub planned-requires : goal.planned-requires
planned-requires c = let x = c.args in omega (arith, c.count.ensures, few-entries (width_of x.kind) x.store.now (width_least x.kind) c.if-store-gt-MOST_BYTES.false)

pub returns-in_err-map_err : goal.returns-in_err-map_err
returns-in_err-map_err c = let x = c.args in grind (arith, plan-refused (width_of x.kind) x.store.now x.levels.now _ c.find_levels.result (width_least x.kind) c.if-store-gt-MOST_BYTES.false c.find_levels.ensures)

pub returns : goal.returns
returns c = let x = c.args in
    plan-rows (width_of x.kind) x.store.now x.levels.now _ c.find_levels.result (width_least x.kind) c.if-store-gt-MOST_BYTES.false c.find_levels.ensures c.count.result c.planned.result (search rules) c.count.ensures c.planned.ensures
