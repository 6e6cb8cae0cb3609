-- `rowvisit::plain::take_first` meets its contract: a pop that finds nothing changes nothing, and after another the parents are visited. Assumes nothing.
use mathlib.Core.Path.{refl, ap, ◌∙◌}
use mathlib.Core.List.{List}
use Prim.Native.Nat.{ℕ}
use Rattle.state.specs.Steps.{mem}
use Rattle.rowvisit.proofs.plain.take_first.Goals as goal

pub returns-in_err-p : goal.returns-in_err-p
returns-in_err-p c = let x = c.args in
    let o = c.in_err-p.ensures in
    rw c.from_residual.ensures (record { right = (ap (λ (l : List ℕ). mem x.names.now x.marks.now x.times.now l) o.told.0, refl, refl) })

pub visit_plain_parents-requires : goal.visit_plain_parents-requires
visit_plain_parents-requires c = c.requires

pub shape_of-line : goal.shape_of-line
shape_of-line c = c.visit_plain_parents.auto.line ∙ c.pop.auto.line

pub returns : goal.returns
returns c = record {
  right = (c.pop.new.line, c.in_ok-p.p, record { pops = c.in_ok-p.ensures; seconds = c.seconds_of-seconds.ensures }, c.visit_plain_parents.ensures);
}
