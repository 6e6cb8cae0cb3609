-- `turns::turns` meets its contract: the memory reads as the painting after the turns that were taken, and once none is due more change nothing. Assumes nothing.
use Rattle.frontier.specs.Paint.{lent}
use Rattle.frontier.proofs.TurnLaws.{Taking}
use Rattle.hash.specs.Bytes.{width_of}
use Rattle.frontier.proofs.turns.turns.Given as goal

abbrev pub invariant-loop-i : goal.invariant-loop-i
invariant-loop-i l = Taking (width_of l.kind) l.cache l.graph l.store l.cap (lent l.initial.names l.initial.marks l.initial.levels l.initial.times l.initial.line) (lent l.names l.marks l.levels l.times l.line) l.initial.q l._i l.q
