-- `inplace::stored::take_body` meets its contract: what is promised of the first of the queue and of its body's parents, and what is set down after them; where nothing
-- waits nothing was changed. Assumes nothing.
use mathlib.Core.Path.{refl}
use Rattle.inplace.proofs.Bodies.{end-made}
use Rattle.inplace.proofs.stored.take_body.Goals as goal

pub returns-in_default : goal.returns-in_default
returns-in_default c = let s = (rw c.in_default.is at c.take_body.ensures).right in
    record { still = λ e. ((λ i. record { memory = s.0 i; levels = s.1 i; parents = s.2 i }), refl, refl, refl, refl); took = λ n. absurd (n refl) }

pub returns : goal.returns
returns c = let y = (rw c.in-Some.is at c.take_body.ensures).right in
    let e = rw c.time_given-time.ensures at c.put_end-n.ensures in
    record {
      still = λ n. absurd (end-made e n);
      took = λ n. record { line₁ = y.0; popped = y.1; time = c.in-Some.taken.seconds; seen = c.in-Some.taken.visited; leaves = y.2; visits = y.3; answer = e; waits = c.put_waiting.ensures };
    }
