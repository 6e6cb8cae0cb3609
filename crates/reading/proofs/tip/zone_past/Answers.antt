-- `reading::zone_past` meets its contract: the committer reading past the known lines is the header's. Assumes nothing.
use Rattle.reading.proofs.Tips.{zone-told, no-zone-told}
use borrow.Author.Rules.{rules}
use Rattle.reading.proofs.tip.zone_past.Goals as goal

pub returns-in-Some : goal.returns-in-Some
returns-in-Some c =
    λ g h. zone-told _ c.args.body.now (c.stamp_past.ensures g h) _ c.in-Some.is

pub returns-in-None : goal.returns-in-None
returns-in-None c = λ g h. no-zone-told _ c.args.body.now (c.stamp_past.ensures g h) c.in-None.is
