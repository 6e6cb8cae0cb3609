-- `marking::place` meets its contract: a commit is read where its slot had no mark of painting's. Assumes nothing.
use Rattle.frontier.proofs.MarkAnswers.{place-new, place-known, place-full}
use Rattle.frontier.proofs.marking.place.Goals as goal

pub returns-in-New : goal.returns-in-New
returns-in-New c = record { right = λ names marks names' marks' cap bits a. place-new a _ c.in-New.is c.learn.ensures }

pub returns-in-Known : goal.returns-in-Known
returns-in-Known c = record { right = λ names marks names' marks' cap bits a. place-known a _ c.in-Known.is }

pub returns-in-Full : goal.returns-in-Full
returns-in-Full c = record { right = λ names marks names' marks' cap bits a. place-full a c.in-Full.is }
