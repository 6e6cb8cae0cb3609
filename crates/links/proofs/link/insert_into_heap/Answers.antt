-- `links::link::insert_into_heap` meets its contract: a link that is not admitted changes nothing, and another parent waits in its queue, which is by time. Assumes
-- nothing.
use Rattle.links.proofs.Links.{enters-admitted, enters-turned}
use Rattle.links.proofs.link.insert_into_heap.Goals as goal

pub returns-then-admits : goal.returns-then-admits
returns-then-admits c = λ r. enters-admitted c.admits.ensures c.if-admits.true (c.lengthen_heap.ensures.own c.requires r)

pub returns : goal.returns
returns c = λ r. enters-turned c.admits.ensures c.if-admits.false
