-- `notes::note_one` meets its contract: the id of the line is decoded and noted. Assumes nothing.
use Rattle.reach.proofs.Noting.{one_decoded}
use Rattle.hash.proofs.Widths.{width-most}
use Rattle.reach.proofs.notes.note_one.Goals as goal

pub returns : goal.returns
returns c = one_decoded (width-most c.args.kind) c.args.body.now c.body_parent-id.result c.body_parent-id.ensures c.id_slice.ensures c.note.ensures
