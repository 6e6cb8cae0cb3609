-- `state::lengthen_heap` meets its contract: the seconds are set down, and then the slot is pushed; where a number is too large, or the queue is not by time,
-- nothing is changed. Assumes nothing.
use mathlib.Core.Path.{refl, sym, ◌∙◌, ap}
use mathlib.Core.Bool.{Bool, cond}
use native.Mathlib.Omega.{arith}
use lib.ListN.{set}
use borrow.Author.Tests.{not-true, not-false}
use Rattle.hash.proofs.Tests.{clash}
use Rattle.state.specs.Shapes.{waiting_in}
use Rattle.state.proofs.Queueing.{waits_pushed, waits-not}
use Rattle.state.proofs.lengthen_heap.Goals as goal

pub returns-then-not-q : goal.returns-then-not-q
returns-then-not-q c = record { own = λ f. clash f (not-true _ c.if-not-q.true); other = λ f. (refl, refl, refl) }

pub returns-then-slot-gt-MOST : goal.returns-then-slot-gt-MOST
returns-then-slot-gt-MOST c = record { own = λ f r. waits-not (λ sh l m b. omega (arith, c.if-slot-gt-MOST.true)); other = λ f. (refl, refl, refl) }

pub returns-then-admitted-gt-MOST : goal.returns-then-admitted-gt-MOST
returns-then-admitted-gt-MOST c = record { own = λ f r. waits-not (λ sh l m b. omega (arith, c.if-admitted-gt-MOST.true)); other = λ f. (refl, refl, refl) }

pub returns : goal.returns
returns c =
    let x = c.args in
    record {
      own = λ f r. waits_pushed {r = waiting_in r x.w} x.times.now x.slot x.s.0 (c.set_seconds.ensures ∙ ap (λ (b : Bool). cond b (set x.times.now x.slot x.s.0) x.times.now) (sym f)) c.push-longer.ensures;
      other = λ f. clash (not-false _ c.if-not-q.false) f;
    }
