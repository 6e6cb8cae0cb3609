-- `wire::no_kind` meets its contract: 32 and 0 are the words of the kinds that they read as. Assumes nothing.
use Rattle.wire.proofs.InPlace.{none_is_zero}
use native.Mathlib.Omega.{arith}
use Rattle.wire.specs.Words.{kind_of}
use borrow.Author.Rules.{rules}
use Rattle.wire.proofs.no_kind.Goals as goal

pub returns-then-x-eq32 : goal.returns-then-x-eq32
unfolding kind_of
returns-then-x-eq32 c = (omega arith, λ z. rw c.if-x-eq32.true)

pub returns-else-x-eq32 : goal.returns-else-x-eq32
returns-else-x-eq32 c = (c.over.ensures.0, λ z. none_is_zero c.args.x (c.over.ensures.1 z))
