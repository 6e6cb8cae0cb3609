-- `feed::message_at` meets its contract. The loop's invariant: the message is found from here on, where a line starts if the flag says so. The
-- measure is what is left. Assumes nothing.
use mathlib.Core.Path.{◌≡◌, sym, ◌∙◌}
use mathlib.Core.Bool.{false}
use native.Mathlib.Omega.{arith}
use lib.ListN.{get_or}
use Rattle.feed.proofs.Messages.{start, no_end, not-fresh, at-empty, at_other, at-end}
use mathlib.Core.Bool.{◌&&◌}
use mathlib.Core.Logic.{⊎_elim}
use lib.Dec.{eqb}
use Rattle.std.proofs.lemmas.Bool.{ne_eqb, eq-eqb}
use borrow.Author.Rules.{rules}
use Rattle.feed.proofs.message_at.Goals as goal

pub loop-i-init : goal.loop-i-init
loop-i-init c = (search rules, start c.args.body.now)

pub returns-then-fresh : goal.returns-then-fresh
returns-then-fresh c =
    let b = c.args.body.now in
    (search rules, at-empty b c.loop-i.i (omega arith) c.loop-i.fresh c.if-fresh.true (eq-eqb _ _ c.if-ends.true) ∙ sym c.loop-i.invariant.1)

pub loop-i-preserved : goal.loop-i-preserved
loop-i-preserved c =
    let b = c.args.body.now in
    let o : (eqb (get_or b c.loop-i.i 0) 10 && c.loop-i.fresh) ≡ false = ⊎_elim (λ w. not-fresh (eqb (get_or b c.loop-i.i 0) 10) c.loop-i.fresh w.if-fresh.false) (λ w. no_end (eqb (get_or b c.loop-i.i 0) 10) c.loop-i.fresh (ne_eqb _ _ w.if-ends.false)) c.if-ends.branch-raw in
    (search rules, c.loop-i.invariant.1 ∙ at_other b c.loop-i.i (omega arith) c.loop-i.fresh o)

pub returns : goal.returns
returns c =
    let b = c.args.body.now in
    (search rules, at-end b c.loop-i.i c.loop-i.fresh (omega arith) ∙ sym c.loop-i.invariant.1)
