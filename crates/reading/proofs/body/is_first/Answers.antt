-- `reading::body::is_first` meets its contract: both tests are asked. Assumes nothing.
use mathlib.Core.Path.{sym, ap}
use mathlib.Core.Bool.{Bool, ◌&&◌}
use lib.Dec.{eqb}
use borrow.Author.Rules.{rules}
use Rattle.reading.proofs.body.is_first.Goals as goal

pub returns-then-first : goal.returns-then-first
returns-then-first c = sym (ap (λ (b : Bool). b && eqb c.args.n 1) c.if-first.true)
