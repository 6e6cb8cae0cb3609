-- `pop` meets its contract: without `Waits` nothing leaves, and else the first of the two runs' first slots. Assumes nothing.
use borrow.Author.Rules.{rules}
use Rattle.pending.proofs.Popping.{waits-runs, pops-older, pops-younger}
use Rattle.pending.proofs.pop.Goals as goal

pub returns-then-not-is_waiting : goal.returns-then-not-is_waiting
returns-then-not-is_waiting c = c.is_waiting.ensures.not c.if-not-is_waiting.true

pub is_older_first-requires : goal.is_older_first-requires
is_older_first-requires c = let x = c.args in waits-runs x.p x.line.now (c.is_waiting.ensures.yes c.if-not-is_waiting.false)

pub returns-then-is_older_first : goal.returns-then-is_older_first
returns-then-is_older_first c = let x = c.args in
    let w = c.is_waiting.ensures.yes c.if-not-is_waiting.false in
    pops-older x.levels.now x.times.now x.p x.line.now w c.is_older_first.result c.is_older_first.ensures c.if-is_older_first.true

pub returns-else-is_older_first : goal.returns-else-is_older_first
returns-else-is_older_first c = let x = c.args in
    let w = c.is_waiting.ensures.yes c.if-not-is_waiting.false in
    pops-younger x.levels.now x.times.now x.p x.line.now w c.is_older_first.result c.is_older_first.ensures c.if-is_older_first.false
