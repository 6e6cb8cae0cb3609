-- `feed::with_line` meets its contract: the start is tested, and what follows it goes on. Assumes nothing.
use mathlib.Core.Path.{sym, ap, ◌∙◌}
use native.Mathlib.Omega.{arith}
use lib.ListN.{length}
use Rattle.hash.proofs.Bytes.{at_rest}
use Rattle.feed.specs.Passing.{another}
use Rattle.feed.proofs.Splitting.{no_start, has-start}
use Rattle.feed.proofs.with_line.Goals as goal

pub returns-then-not-starts_with : goal.returns-then-not-starts_with
returns-then-not-starts_with c = let x = c.args in
    no_start x.told x.start.now x.line.now (sym c.starts_with.ensures ∙ c.if-not-starts_with.true)

pub returns : goal.returns
returns c = let x = c.args in
    let s = c.starts_with in
    c.add.ensures
    ∙ ap (another x.told) (c.part.ensures ∙ at_rest x.line.now (length x.start.now) (length x.line.now) (omega arith))
    ∙ has-start x.told x.start.now x.line.now (sym s.ensures ∙ c.if-not-starts_with.false)
