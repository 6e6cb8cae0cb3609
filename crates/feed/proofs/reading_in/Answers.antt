-- `feed::reading_in` meets its contract: it goes by the same cases as the definition. Assumes nothing.
use mathlib.Core.Path.{sym, ap}
use Rattle.feed.specs.Feed.{reading_in}
use Rattle.feed.proofs.reading_in.Goals as goal

pub returns-in-Millimetres : goal.returns-in-Millimetres
returns-in-Millimetres c = sym (ap reading_in c.in-Millimetres.is)
