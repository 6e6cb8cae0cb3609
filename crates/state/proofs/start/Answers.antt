-- `state::start` meets its contract: emptied slots hold no id. Assumes nothing.
use Rattle.state.proofs.Starting.{starts}
use Rattle.state.proofs.start.Goals as goal

pub returns : goal.returns
returns c = starts c.clear.ensures
