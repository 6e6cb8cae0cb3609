-- Each place is further on, or nothing more is read from it.
use Rattle.commititer.proofs.Forward.{left}
use Rattle.tokens.proofs.tokens.Given as goal

abbrev pub decreases-loop-token : goal.decreases-loop-token
decreases-loop-token g l = left l.body l.place
