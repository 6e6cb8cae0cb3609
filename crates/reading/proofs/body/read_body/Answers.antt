-- `reading::body::read_body` meets its contract: the tree line first, then the parents that the mode follows, then what stands after them. Assumes nothing.
use mathlib.Core.Path.{refl, sym, ◌∙◌}
use Rattle.hash.specs.Bytes.{width_of}
use Rattle.object.proofs.Lines.{turned-yes, turned-no}
use Rattle.commititer.proofs.ByHeader.{tree-told}
use Rattle.reading.proofs.Bodies.{reads-bad, reads_first, reads_on}
use borrow.Author.Rules.{rules}
use mathlib.Core.Bool.{not}
use mathlib.Core.Path.{ap}
use Rattle.reading.proofs.body.read_body.Goals as goal

pub returns-then-not-is_tree : goal.returns-then-not-is_tree
returns-then-not-is_tree c = let w = width_of c.args.kind in reads-bad w c.args.first c.args.body.now c.args.out.now (turned-yes (c.is_tree.ensures ∙ tree-told w c.args.body.now refl) (ap not c.if-not-is_tree.true))

pub returns-then-is_first : goal.returns-then-is_first
returns-then-is_first c = let w = width_of c.args.kind in reads_first (turned-no (c.is_tree.ensures ∙ tree-told w c.args.body.now refl) (ap not c.if-not-is_tree.false)) c.put_parents-n.ensures (sym c.is_first.ensures ∙ c.if-is_first.true)

pub returns : goal.returns
returns c = let w = width_of c.args.kind in reads_on (turned-no (c.is_tree.ensures ∙ tree-told w c.args.body.now refl) (ap not c.if-not-is_tree.false)) c.put_parents-n.ensures (sym c.is_first.ensures ∙ c.if-is_first.false) c.end_after-ends.ensures
