-- `state::lengthen_ring` meets its contract: in a queue that is not by time no seconds count, and the slot is pushed; where a number is too large, or the queue
-- is by time, nothing is changed. Assumes nothing.
use mathlib.Core.Path.{refl, sym, ap}
use mathlib.Core.Bool.{Bool, cond}
use native.Mathlib.Omega.{arith}
use lib.ListN.{set}
use Rattle.hash.proofs.Tests.{clash}
use Rattle.state.specs.Shapes.{waiting_in}
use Rattle.state.proofs.Queueing.{waits_pushed, waits-not}
use Rattle.state.proofs.lengthen_ring.Goals as goal

pub returns-then-q : goal.returns-then-q
returns-then-q c = record { own = λ f. clash c.if-q.true f; other = λ f. (refl, refl) }

pub returns-then-slot-gt-MOST : goal.returns-then-slot-gt-MOST
returns-then-slot-gt-MOST c = record { own = λ f r s. waits-not (λ sh l m b. omega (arith, c.if-slot-gt-MOST.true)); other = λ f. (refl, refl) }

pub returns-then-admitted-gt-MOST : goal.returns-then-admitted-gt-MOST
returns-then-admitted-gt-MOST c = record { own = λ f r s. waits-not (λ sh l m b. omega (arith, c.if-admitted-gt-MOST.true)); other = λ f. (refl, refl) }

pub returns : goal.returns
returns c =
    let x = c.args in
    record {
      own = λ f r s. waits_pushed {r = waiting_in r x.w} x.times.now x.slot s (ap (λ (b : Bool). cond b (set x.times.now x.slot s) x.times.now) (sym f)) c.push-longer.ensures;
      other = λ f. clash f c.if-q.false;
    }
