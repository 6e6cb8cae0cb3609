-- `put_older` meets its contract: `shift_in` has put the slot into the run, which now begins one place lower. Assumes nothing.
use Rattle.pending.proofs.Pushing.{enters-older}
use Rattle.pending.proofs.put_older.Goals as goal

pub returns : goal.returns
returns c =
    let x = c.args in
    enters-older x.levels.now x.times.now x.p x.line.now c.requires.0 x.slot c.shift_in.new.line c.requires.1 c.shift_in.ensures
