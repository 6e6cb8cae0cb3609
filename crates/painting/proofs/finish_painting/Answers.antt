-- `painting::finish_painting` meets its contract: each answer of painting has its end. Assumes nothing.
use Rattle.painting.proofs.Finish.{finish-going, finish-stop, finish-full}
use Rattle.painting.proofs.finish_painting.Goals as goal

pub returns-in-Ok : goal.returns-in-Ok
returns-in-Ok c = finish-going c.in-Ok.is c.leave_frontier.ensures

pub returns-in-Err-Stop : goal.returns-in-Err-Stop
returns-in-Err-Stop c = finish-stop c.in-Err-Stop.is (rw c.in-Err-Stop.is at c.in-Err-Stop.field-0-is) c.call_refusal.ensures c.fail_painting.ensures

pub returns-in-Err-NoRoom : goal.returns-in-Err-NoRoom
returns-in-Err-NoRoom c = finish-full c.in-Err-NoRoom.is (rw c.in-Err-NoRoom.is at c.in-Err-NoRoom.field-0-is)
