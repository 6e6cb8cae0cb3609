-- `feed::read` meets its contract: the lines of the message are passed, and what they tell is judged. Assumes nothing.
use mathlib.Core.Path.{◌∙◌}
use lib.ListN.{drop}
use Rattle.feed.proofs.Passing.{judged_feed}
use Rattle.feed.proofs.read.Goals as goal

pub returns : goal.returns
returns c = let b = c.args.body.now in
    let m = c.message_at in
    let s = c.pass_lines-lines in
    c.judge.ensures ∙ judged_feed b (drop m.result b) s.result m.ensures.1 s.ensures
