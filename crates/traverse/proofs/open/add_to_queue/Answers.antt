-- `open::add_to_queue` meets its contract: only a new tip that no cutoff turns away waits. Assumes nothing.
use Rattle.traverse.proofs.OpenTips.{admit-again, admit-turned, admit-waits}
use Rattle.traverse.proofs.open.add_to_queue.Goals as goal

pub returns-in_default : goal.returns-in_default
returns-in_default c = let x = c.args in admit-again x.r x.times.now x.line.now x.seen x.how c.in_default.is

pub shape_of-times : goal.shape_of-times
shape_of-times c = c.wait.auto.times

pub shape_of-line : goal.shape_of-line
shape_of-line c = c.wait.auto.line

pub returns-in-Some-how : goal.returns-in-Some-how
returns-in-Some-how c = let x = c.args in
    admit-waits x.r x.times.now x.line.now x.seen x.how c.in-Some-how.s c.in-Some.is c.in-Some-how.is c.wait.ensures

pub returns-in-None : goal.returns-in-None
returns-in-None c = let x = c.args in admit-turned x.r x.times.now x.line.now x.seen x.how c.in-None.is
