-- `state::drop_graph` meets its contract: the slot is put back, beside a record that has dropped the graph. Assumes nothing.
use Rattle.state.proofs.Queueing.{drops-put}
use Rattle.state.proofs.drop_graph.Goals as goal

pub returns : goal.returns
returns c = rw c.with_queue.ensures (drops-put c.put_back-longer.ensures)
