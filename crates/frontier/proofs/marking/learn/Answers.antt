-- `marking::learn` meets its contract: the pair that was read is the one set down. Assumes nothing.
-- HEAD-END
use Rattle.frontier.proofs.MarkAnswers.{learned-row, learned-body, not-learned}
use Rattle.frontier.proofs.marking.learn.Goals as goal

-- src/marking.rt:28:1
pub returns-in-Row : goal.returns-in-Row
returns-in-Row c = learned-row c.read_commit-c.ensures _ _ _ c.in-Row.is c.set_pair.ensures.0 c.set_pair.ensures.1

-- src/marking.rt:28:1
pub returns-in-Body : goal.returns-in-Body
returns-in-Body c = learned-body c.read_commit-c.ensures _ _ _ _ c.in-Body.is c.set_pair-in-Body.ensures.0 c.set_pair-in-Body.ensures.1

-- src/marking.rt:28:1
pub returns-in-Failed : goal.returns-in-Failed
returns-in-Failed c = not-learned c.read_commit-c.ensures _ c.in-Failed.is
