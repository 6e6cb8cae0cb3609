-- `notes::note` meets its contract: by what came of the id; a new one enters the line. Assumes nothing.
use Rattle.reach.proofs.Noting.{on-fresh, on-known, on-full}
use Rattle.hash.specs.Bytes.{width_of}
use Rattle.reach.proofs.notes.note.Goals as goal

pub returns-in-Fresh : goal.returns-in-Fresh
returns-in-Fresh c = on-fresh c.mark_id-marked.ensures c.in-Fresh.is c.put.ensures

pub returns-in-Known : goal.returns-in-Known
returns-in-Known c = let x = c.args in on-known (width_of x.kind) x.second x.cap x.from x.line.now x.n c.mark_id-marked.ensures c.in-Known.is

pub returns-in-Full : goal.returns-in-Full
returns-in-Full c = let x = c.args in on-full (width_of x.kind) x.second x.cap x.from x.line.now x.n c.mark_id-marked.ensures c.in-Full.is
