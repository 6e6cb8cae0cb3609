-- `table::home` meets its contract: a remainder is below its divisor. Assumes nothing.
use mathlib.Core.Path.{ap, ◌∙◌}
use Prim.Native.Nat.{ℕ, ◌%◌}
use native.Mathlib.Nat.{mod-lt}
use Rattle.hashtable.specs.Table.{home_of}
use borrow.Author.Rules.{rules}
use Rattle.hashtable.proofs.table.home.Goals as goal

pub returns : goal.returns
unfolding home_of
returns c =
    (ap (λ (n : ℕ). n % c.args.cap) (c.wide.ensures ∙ c.be32.ensures), mod-lt c.wide.result c.requires)
