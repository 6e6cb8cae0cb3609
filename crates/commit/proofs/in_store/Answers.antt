-- `commit::in_store` meets its contract: it goes by the same cases. Assumes nothing.
use mathlib.Core.Path.{◌≡◌, ap, sym}
use Rattle.commit.specs.Find.{in_store}
use borrow.Author.Rules.{rules}
use Rattle.commit.proofs.in_store.Goals as goal

pub returns-in-Body : goal.returns-in-Body
returns-in-Body c = rw c.in-Body.is
