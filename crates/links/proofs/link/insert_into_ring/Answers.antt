-- `links::link::insert_into_ring` meets its contract: a link that is not admitted changes nothing, and another parent waits in its queue, which is not by time. Assumes
-- nothing.
use lib.IntN.{pos}
use Rattle.links.proofs.Links.{enters-admitted, enters-turned}
use Rattle.links.proofs.link.insert_into_ring.Goals as goal

pub returns-then-admits : goal.returns-then-admits
returns-then-admits c = λ r. enters-admitted c.admits.ensures c.if-admits.true (c.lengthen_ring.ensures.own c.requires r (pos 0))

pub returns : goal.returns
returns c = λ r. enters-turned c.admits.ensures c.if-admits.false
