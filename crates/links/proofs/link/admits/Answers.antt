-- `links::link::admits` meets its contract: the tests decide in the order of the definition. Assumes nothing.
use Rattle.links.proofs.Links.{not-admitted, first-admitted, timed-admitted}
use Rattle.links.proofs.link.admits.Goals as goal

pub returns-then-is_among : goal.returns-then-is_among
returns-then-is_among c = not-admitted c.is_among.ensures c.if-is_among.true

pub returns-then-only_first : goal.returns-then-only_first
returns-then-only_first c = first-admitted c.is_among.ensures c.if-is_among.false c.only_first.ensures c.if-only_first.true

pub returns : goal.returns
returns c = timed-admitted c.is_among.ensures c.if-is_among.false c.only_first.ensures c.if-only_first.false c.within_cutoff_time.ensures
