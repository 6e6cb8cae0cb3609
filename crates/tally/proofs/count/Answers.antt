-- `count` meets its contract: field by field, from what the functions of each field ensure. Assumes nothing.
use borrow.Author.Rules.{rules}
use Rattle.tally.proofs.count.Goals as goal

pub returns : goal.returns
returns c = (λ k. record { commits = c.commits_after.ensures k; refused = c.refused_after.ensures k; reason = c.reason_after.ensures k; feeds = c.args.f; outside = c.args.t.outside })
