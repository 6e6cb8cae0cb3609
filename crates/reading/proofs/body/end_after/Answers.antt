-- `reading::body::end_after` meets its contract: a parent too many is asked before the author line. Assumes nothing.
use mathlib.Core.Path.{sym, ◌∙◌}
use Rattle.hash.specs.Bytes.{width_of}
use Rattle.hash.proofs.Widths.{width-most}
use mathlib.Core.Bool.{true, false}
use Rattle.reading.proofs.Bodies.{at_place, ends-crowded, ends_by_author}
use borrow.Author.Rules.{rules}
use Rattle.reading.proofs.body.end_after.Goals as goal

pub returns-then-is_crowded : goal.returns-then-is_crowded
returns-then-is_crowded c = ends-crowded c.is_crowded.ensures c.if-is_crowded.true

pub returns-then-is_author : goal.returns-then-is_author
returns-then-is_author c = let w = width_of c.args.kind in ends_by_author (width-most c.args.kind) c.args.body.now c.args.k (at_place w c.args.body.now c.args.k c.parents_place-place.ensures) c.is_crowded.ensures c.if-is_crowded.false true (sym c.if-is_author.true ∙ c.is_author.ensures w)

pub returns : goal.returns
returns c = let w = width_of c.args.kind in ends_by_author (width-most c.args.kind) c.args.body.now c.args.k (at_place w c.args.body.now c.args.k c.parents_place-place.ensures) c.is_crowded.ensures c.if-is_crowded.false false (sym c.if-is_author.false ∙ c.is_author.ensures w)
