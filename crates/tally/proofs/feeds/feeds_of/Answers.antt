-- `feeds::feeds_of` meets its contract: by the cases of the cone's reading. Assumes nothing.
use Rattle.std.specs.Prelude.{Option, ℕ}
use mathlib.Core.Path.{sym, ◌∙◌, ap}
use Rattle.tally.specs.Feeds.{feeds_of}
use borrow.Author.Rules.{rules}
use Rattle.tally.proofs.feeds.with_cone.Reads as with-cone-reads
use Rattle.tally.proofs.feeds.without_cone.Reads as without-cone-reads
use Rattle.tally.proofs.feeds.feeds_of.Goals as goal

pub returns-in-Some : goal.returns-in-Some
returns-in-Some c = c.with_cone.ensures ∙ ap (λ (x : Option ℕ). feeds_of x c.args.f.bed) (sym c.in-Some.is)
