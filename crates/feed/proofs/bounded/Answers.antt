-- `feed::bounded` meets its contract: a value above the bound is none. Assumes nothing.
use native.Mathlib.Omega.{arith}
use Rattle.feed.proofs.Numbers.{above_most, within-most}
use Rattle.feed.proofs.bounded.Goals as goal

pub returns-then-value-gt-MOST_MILLIMETRES : goal.returns-then-value-gt-MOST_MILLIMETRES
returns-then-value-gt-MOST_MILLIMETRES c = above_most c.args.value c.if-value-gt-MOST_MILLIMETRES.true

pub returns : goal.returns
returns c = within-most c.args.value (omega (arith, c.if-value-gt-MOST_MILLIMETRES.false))
