-- `check` meets its contract: the first test that fails decides. Assumes nothing.
use mathlib.Core.Path.{sym, ◌∙◌, ap}
use Prim.Native.Nat.{◌≤◌, ◌<◌}
use native.Mathlib.Omega.{arith}
use lib.ListN.{length}
use Rattle.walk.specs.Opening.{list_limit}
use Rattle.opening.specs.Checks.{checked_of}
use Rattle.trace.proofs.Checks.{by-moves, by-store-size, by-list-size, by_width, by-store, by-none}
use Rattle.hash.specs.Bytes.{width_of}
use Rattle.trace.proofs.check.Goals as goal

-- src/lib.rt:45:9
pub returns-then-d-gt-MOST_MOVES : goal.returns-then-d-gt-MOST_MOVES
returns-then-d-gt-MOST_MOVES c = let x = c.args in sym (ap checked_of (by-moves (width_of x.kind) x.store.now x.list.now x.d c.if-d-gt-MOST_MOVES.true))

-- src/lib.rt:48:9
pub returns-then-store-gt-MOST_FILE : goal.returns-then-store-gt-MOST_FILE
returns-then-store-gt-MOST_FILE c = let x = c.args in let m : x.d ≤ 12 = omega (arith, c.if-d-gt-MOST_MOVES.false) in sym (ap checked_of (by-store-size (width_of x.kind) x.store.now x.list.now x.d m c.if-store-gt-MOST_FILE.true))

-- src/lib.rt:50:8
pub overflow_mul-width : goal.overflow_mul-width
overflow_mul-width c = omega (arith, c.width.ensures.2)

-- src/lib.rt:51:9
pub returns-then-width-list : goal.returns-then-width-list
returns-then-width-list c = let x = c.args in let m : x.d ≤ 12 = omega (arith, c.if-d-gt-MOST_MOVES.false) in let s : length x.store.now ≤ 16777216 = omega (arith, c.if-store-gt-MOST_FILE.false) in let h : list_limit (width_of x.kind) < length x.list.now = omega (arith, c.if-width-list.true, c.width.ensures.0) in sym (ap checked_of (by-list-size (width_of x.kind) x.store.now x.list.now x.d m s h))

-- src/lib.rt:54:9
pub returns-then-not-whole : goal.returns-then-not-whole
returns-then-not-whole c = let x = c.args in let m : x.d ≤ 12 = omega (arith, c.if-d-gt-MOST_MOVES.false) in let s : length x.store.now ≤ 16777216 = omega (arith, c.if-store-gt-MOST_FILE.false) in let l : length x.list.now ≤ list_limit (width_of x.kind) = omega (arith, c.if-width-list.false, c.width.ensures.0) in sym (ap checked_of (by_width (width_of x.kind) x.store.now x.list.now x.d m s l (sym c.whole.ensures ∙ c.if-not-whole.true)))

-- src/lib.rt:57:9
pub returns-then-not-is_good : goal.returns-then-not-is_good
returns-then-not-is_good c = let x = c.args in let m : x.d ≤ 12 = omega (arith, c.if-d-gt-MOST_MOVES.false) in let s : length x.store.now ≤ 16777216 = omega (arith, c.if-store-gt-MOST_FILE.false) in let l : length x.list.now ≤ list_limit (width_of x.kind) = omega (arith, c.if-width-list.false, c.width.ensures.0) in let w = sym c.whole.ensures ∙ c.if-not-whole.false in sym (ap checked_of (by-store (width_of x.kind) x.store.now x.list.now x.d m s l w (sym c.is_good.ensures ∙ c.if-not-is_good.true)))

-- src/lib.rt:41:1
pub returns : goal.returns
returns c = let x = c.args in let m : x.d ≤ 12 = omega (arith, c.if-d-gt-MOST_MOVES.false) in let s : length x.store.now ≤ 16777216 = omega (arith, c.if-store-gt-MOST_FILE.false) in let l : length x.list.now ≤ list_limit (width_of x.kind) = omega (arith, c.if-width-list.false, c.width.ensures.0) in let w = sym c.whole.ensures ∙ c.if-not-whole.false in sym (ap checked_of (by-none (width_of x.kind) x.store.now x.list.now x.d m s l w (sym c.is_good.ensures ∙ c.if-not-is_good.false)))
