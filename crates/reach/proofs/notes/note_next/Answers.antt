-- `notes::note_next` meets its contract: by the answer before. Assumes nothing.
use Rattle.reach.specs.Memory.{lent}
use Rattle.reach.proofs.Noting.{next-count, next-none}
use Rattle.hash.specs.Bytes.{width_of}
use Rattle.reach.proofs.notes.note_next.Goals as goal

pub returns : goal.returns
returns c = next-count c.in_ok-n.was c.note.ensures

pub returns-in_err-n : goal.returns-in_err-n
returns-in_err-n c = rw c.from_residual.ensures (let x = c.args in next-none (width_of x.kind) x.second x.cap x.from (lent x.names.now x.marks.now x.line.now) x.id.now c.in_err-n.was)
