-- `commitid::set_digest` meets its contract: each kind has its digest. Assumes nothing.
use mathlib.Core.Path.{◌∙◌, ap}
use Rattle.hash.specs.Bytes.{set_down}
use Rattle.commitid.proofs.set_digest.Goals as goal

pub returns-in-Sha1 : goal.returns-in-Sha1
returns-in-Sha1 c = let x = c.args in rw c.in-Sha1.is (c.set_down.ensures ∙ ap (set_down x.out.now x.i) c.sha1_of.ensures)

pub returns-in-Sha256 : goal.returns-in-Sha256
returns-in-Sha256 c = let x = c.args in rw c.in-Sha256.is (c.set_down-in-Sha256.ensures ∙ ap (set_down x.out.now x.i) c.sha256_of.ensures)
