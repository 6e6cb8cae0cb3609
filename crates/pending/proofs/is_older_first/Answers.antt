-- `is_older_first` meets its contract: where both runs have a slot the younger one's leaves if it is strictly ahead. Assumes nothing.
use Rattle.pending.specs.Pending.{ahead}
use Rattle.pending.proofs.Popping.{leaves-older, leaves-younger, leaves-first}
use Rattle.pending.proofs.is_older_first.Goals as goal

pub returns-then-high-b : goal.returns-then-high-b
returns-then-high-b c =
    let x = c.args in
    leaves-older (ahead x.levels.now x.times.now) x.line.now x.a x.end x.b x.high c.requires c.if-high-b.true

pub returns-then-end-a : goal.returns-then-end-a
returns-then-end-a c =
    let x = c.args in
    leaves-younger (ahead x.levels.now x.times.now) x.line.now x.a x.end x.b x.high c.requires c.if-high-b.false c.if-end-a.true

pub returns : goal.returns
returns c =
    let x = c.args in
    leaves-first (ahead x.levels.now x.times.now) x.line.now x.a x.end x.b x.high c.requires c.if-high-b.false c.if-end-a.false c.is_ahead.result c.is_ahead.ensures
