-- `reading::body::is_crowded` meets its contract: fewer than 256 parents are never too many, and the line after 256 decides. Assumes nothing.
use mathlib.Core.Path.{sym, subst}
use mathlib.Core.Bool.{Bool}
use native.Mathlib.Omega.{arith}
use Rattle.hash.specs.Bytes.{width_of}
use Rattle.hash.proofs.Widths.{width-most}
use Rattle.object.specs.Header.{header}
use Rattle.reading.specs.Body.{IsCrowded}
use Rattle.reading.proofs.Bodies.{at_place, not-crowded, crowded-told}
use borrow.Author.Rules.{rules}
use Rattle.reading.proofs.body.is_crowded.Goals as goal

pub returns-then-k-lt-MOST_PARENTS : goal.returns-then-k-lt-MOST_PARENTS
returns-then-k-lt-MOST_PARENTS c = not-crowded (width_of c.args.kind) c.args.body.now c.args.k c.if-k-lt-MOST_PARENTS.true

pub returns : goal.returns
returns c = let w = width_of c.args.kind in subst (λ (r : Bool). IsCrowded (header w c.args.body.now) c.args.k r) (sym c.is_parent.ensures) (crowded-told (width-most c.args.kind) c.args.body.now c.args.k (at_place w c.args.body.now c.args.k c.parents_place-place.ensures) (omega (arith, c.if-k-lt-MOST_PARENTS.false)))
