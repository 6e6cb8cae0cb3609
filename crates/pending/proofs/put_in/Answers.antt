-- `put_in` meets its contract: up to place i the memory is the new one, from there on the old one, and the slot in hand comes
-- next. Assumes nothing.
use Rattle.pending.proofs.ByIds.{carried_none, at_i, carried-more, carried-all}
use Rattle.pending.proofs.put_in.Goals as goal

pub loop-i-init : goal.loop-i-init
loop-i-init c = let x = c.args in carried_none x.line.now x.k x.to x.slot c.requires.0 c.requires.1

pub loop-i-preserved : goal.loop-i-preserved
loop-i-preserved c = let x = c.args in
    let l = c.loop-i in
    rw (at_i x.line.now x.k x.to x.slot c.requires.0 c.requires.1 l.line l.i l.x l.invariant) (carried-more x.line.now x.k x.to x.slot c.requires.0 c.requires.1 l.line l.i l.x l.invariant c.loop-i-test.true)

pub returns : goal.returns
returns c = let x = c.args in
    let l = c.loop-i in
    carried-all x.line.now x.k x.to x.slot c.requires.0 c.requires.1 l.line l.i l.x l.invariant c.loop-i-test.false
