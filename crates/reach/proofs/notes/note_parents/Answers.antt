-- `notes::note_parents` meets its contract: after i turns the first i parents of the body are noted. What is left of them grows less. Assumes nothing.
use Rattle.object.specs.Header.{header}
use Rattle.reach.proofs.Noting.{passing_first, passing_next, passing-short, passing_last}
use Rattle.hash.specs.Bytes.{width_of}
use Rattle.reach.proofs.notes.note_parents.Goals as goal

pub loop-i-init : goal.loop-i-init
loop-i-init c = let x = c.args in passing_first (width_of x.kind) x.second x.cap x.from (header (width_of x.kind) x.body.now) _ x.n x.count

pub returns-in_err-have : goal.returns-in_err-have
returns-in_err-have c = rw c.from_residual.ensures (passing-short c.loop-i.invariant c.loop-i-test.true c.note_one.ensures c.in_err-have.was)

pub loop-i-preserved : goal.loop-i-preserved
loop-i-preserved c = passing_next c.loop-i.invariant c.loop-i-test.true c.note_one.ensures (record { names = c.note_one.auto.names; marks = c.note_one.auto.marks; line = c.note_one.auto.line }) c.in_ok-have.was

pub returns : goal.returns
returns c = passing_last c.loop-i.invariant c.loop-i-test.false
