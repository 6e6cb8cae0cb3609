-- `bodyvisit::taking::take_body` meets its contract: a pop that finds nothing changes nothing, and after another the parents whose ids were set down are visited. Assumes
-- nothing.
use mathlib.Core.Path.{refl, sym, ap, ◌∙◌}
use mathlib.Core.List.{List}
use Prim.Native.Nat.{ℕ}
use Rattle.state.specs.Steps.{mem}
use Rattle.bodyvisit.proofs.Bodies.{body_visited}
use Rattle.bodyvisit.proofs.taking.take_body.Goals as goal

pub returns-in_err-p : goal.returns-in_err-p
returns-in_err-p c = let x = c.args in
    let o = c.in_err-p.ensures in
    rw c.from_residual.ensures (record { right = (ap (λ (l : List ℕ). mem x.names.now x.marks.now x.times.now l) o.told.0, refl, refl) })

pub shape_of-line : goal.shape_of-line
shape_of-line c = c.visit_parents_here-after.auto.line ∙ c.pop.auto.line

pub returns : goal.returns
returns c = record {
  right = (c.pop.new.line, c.in_ok-p.p, record { pops = c.in_ok-p.ensures; seconds = c.seconds_of-seconds.ensures }, body_visited (sym c.only_first.ensures) c.read_body-read.auto.out c.read_body-read.ensures c.visit_parents_here-after.ensures);
}
