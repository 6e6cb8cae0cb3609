-- `turns::turn` meets its contract: the slot that leaves has the first commit of the queue, and what it passes are that commit's marks. Assumes nothing.
use Rattle.frontier.proofs.TurnLaws.{turn-some, turn-none}
use Rattle.frontier.proofs.turns.turn.Goals as goal

pub returns : goal.returns
returns c = turn-some c.in-Some.ensures c.mark_of.ensures c.passed_bits-given.ensures c.id_of.ensures c.read_parents-commit.ensures c.pass_to_parents.ensures

pub returns-in_default : goal.returns-in_default
returns-in_default c = turn-none c.in_default.ensures
