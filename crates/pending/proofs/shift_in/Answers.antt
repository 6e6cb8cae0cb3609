-- `shift_in` meets its contract: up to place i the slots have moved down by one, and the new slot goes strictly before none
-- of them; the gap at i - 1 takes it. Assumes nothing.
use mathlib.Core.Path.{◌≡◌, sym, ◌∙◌}
use mathlib.Core.Bool.{true, false}
use lib.ListN.{get_or}
use Rattle.pending.specs.Pending.{ahead}
use Rattle.pending.proofs.Pushing.{begin, at_i, move, put-here, put_last}
use Rattle.pending.proofs.shift_in.Goals as goal

pub loop-i-init : goal.loop-i-init
loop-i-init c = let x = c.args in begin (ahead x.levels.now x.times.now) x.line.now x.head x.tail x.slot c.requires.0 c.requires.1 c.requires.2

pub loop-i-preserved : goal.loop-i-preserved
loop-i-preserved c = let x = c.args in
    let l = c.loop-i in
    let q = at_i (ahead x.levels.now x.times.now) x.line.now x.head x.tail x.slot c.requires.0 c.requires.1 c.requires.2 l.line l.i l.invariant c.loop-i-test.true in
    let e : ahead x.levels.now x.times.now x.slot (get_or x.line.now l.i 0) ≡ false = rw q at (sym c.is_ahead.ensures ∙ c.if-is_ahead.false) in
    rw q (move (ahead x.levels.now x.times.now) x.line.now x.head x.tail x.slot c.requires.0 c.requires.1 c.requires.2 l.line l.i l.invariant c.loop-i-test.true e)

pub returns-then-is_ahead : goal.returns-then-is_ahead
returns-then-is_ahead c = let x = c.args in
    let l = c.loop-i in
    let q = at_i (ahead x.levels.now x.times.now) x.line.now x.head x.tail x.slot c.requires.0 c.requires.1 c.requires.2 l.line l.i l.invariant c.loop-i-test.true in
    let e : ahead x.levels.now x.times.now x.slot (get_or x.line.now l.i 0) ≡ true = rw q at (sym c.is_ahead.ensures ∙ c.if-is_ahead.true) in
    put-here (ahead x.levels.now x.times.now) x.line.now x.head x.tail x.slot c.requires.0 c.requires.1 c.requires.2 l.line l.i l.invariant c.loop-i-test.true e

pub returns : goal.returns
returns c = let x = c.args in
    put_last (ahead x.levels.now x.times.now) x.line.now x.head x.tail x.slot c.requires.0 c.requires.1 c.requires.2 c.loop-i.line c.loop-i.i c.loop-i.invariant c.loop-i-test.false
