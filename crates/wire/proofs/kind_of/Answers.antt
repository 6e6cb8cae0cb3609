-- `wire::kind_of` meets its contract: 32 or any other number. Assumes nothing.
use mathlib.Core.Path.{sym, ap}
use mathlib.Core.Bool.{Bool}
use borrow.Author.Tests.{eq-eqb, ne_eqb}
use Rattle.hash.specs.Bytes.{pick}
use Rattle.hash.specs.declared.Kind.TheVariants.{Sha1, Sha256}
use Rattle.wire.specs.Words.{kind_of}
use Rattle.wire.proofs.kind_of.Goals as goal

pub returns-then-width-eq32 : goal.returns-then-width-eq32
unfolding kind_of
returns-then-width-eq32 c = sym (ap (λ (b : Bool). pick b Sha256 Sha1) (eq-eqb c.args.width 32 c.if-width-eq32.true))

pub returns-else-width-eq32 : goal.returns-else-width-eq32
unfolding kind_of
returns-else-width-eq32 c = sym (ap (λ (b : Bool). pick b Sha256 Sha1) (ne_eqb c.args.width 32 c.if-width-eq32.false))
