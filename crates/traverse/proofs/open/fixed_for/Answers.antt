-- `open::fixed_for` meets its contract: the layout is the one that the file has. Assumes nothing.
use mathlib.Core.Path.{ap}
use Rattle.commitgraph.specs.declared.Layout.{Layout}
use Rattle.state.specs.declared.Fixed.{Fixed}
use Rattle.traverse.proofs.open.fixed_for.Goals as goal

pub returns : goal.returns
returns c = let x = c.args in ap {B = Fixed} (λ (l : Layout). record { layout = l; kind = x.kind }) c.parse.ensures
