-- `graphbytes::write_sum` meets its contract: the digest is as wide as an id, and is read back from the array. Assumes nothing.
use mathlib.Core.Path.{◌∙◌, ap}
use lib.ListN.{take}
use Rattle.hash.specs.Bytes.{width_of, set_down}
use Rattle.hash.proofs.Widths.{width-most}
use Rattle.object.specs.Ids.{id_in}
use Rattle.commitid.specs.Name.{digest_of}
use Rattle.commitid.proofs.Widths.{length_digest}
use Rattle.graphbytes.proofs.Fill.{sum-read}
use Rattle.graphbytes.proofs.write_sum.Goals as goal

pub returns : goal.returns
returns c = let x = c.args in
    let w = width_of x.kind in
    let d = digest_of x.kind (take x.p x.out.now) in
    c.set_down.ensures
    ∙ ap (set_down x.out.now x.p) (c.id_slice.ensures ∙ ap (id_in w) c.put_digest.ensures ∙ sum-read _ d w (length_digest x.kind (take x.p x.out.now)) (width-most x.kind))
