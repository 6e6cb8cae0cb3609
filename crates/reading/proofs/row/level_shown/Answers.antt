-- `row::level_shown` meets its contract: the one level that is shown as none is tested for. Assumes nothing.
use mathlib.Core.Path.{sym, ap}
use Rattle.walk.specs.Given.{level_given}
use Rattle.walk.proofs.Levels.{shown-none, shown-some}
use Rattle.reading.proofs.row.level_shown.Goals as goal

pub returns-then-level-eq-NO_GENERATION : goal.returns-then-level-eq-NO_GENERATION
returns-then-level-eq-NO_GENERATION c = sym (ap level_given (shown-none _ c.if-level-eq-NO_GENERATION.true))

pub returns : goal.returns
returns c = sym (ap level_given (shown-some _ c.if-level-eq-NO_GENERATION.false))
