-- `commititer::parents_place` meets its contract: the lines are of the lengths of their kind. Assumes nothing.
use mathlib.Core.Path.{sym, ap, ◌∙◌}
use Rattle.hash.specs.Bytes.{width_of}
use Rattle.hash.specs.declared.Kind.{Kind}
use Rattle.hash.specs.declared.Kind.TheVariants.{Sha1, Sha256}
use Rattle.commititer.specs.Token.{parents_place}
use Rattle.commititer.proofs.ParentsPlace.{place-held}
use borrow.Author.Rules.{rules}
use Rattle.commititer.proofs.parents_place.Reads as reads
use Rattle.commititer.proofs.line_place.Reads as line-place-reads
use Rattle.object.proofs.parent_size.Reads as parent-size-reads
use Rattle.object.proofs.tree_size.Reads as tree-size-reads
use Rattle.commititer.proofs.parents_place.Goals as goal

pub returns-in-Sha1 : goal.returns-in-Sha1
returns-in-Sha1 c =
    let x = c.args in
    place-held (width_of Sha1) x.k c.tree_size.ensures.0 c.parent_size.ensures.0 c.line_place-at.ensures ∙ sym (ap (λ (k : Kind). parents_place (width_of k) x.k) c.in-Sha1.is)

pub returns-in-Sha256 : goal.returns-in-Sha256
returns-in-Sha256 c =
    let x = c.args in
    place-held (width_of Sha256) x.k c.tree_size-in-Sha256.ensures.0 c.parent_size-in-Sha256.ensures.0 c.line_place-at-in-Sha256.ensures ∙ sym (ap (λ (k : Kind). parents_place (width_of k) x.k) c.in-Sha256.is)
