-- `sha256::sha256_of` meets its contract. Assumes nothing.
use Rattle.std.proofs.Common.{◌≡◌, sym, refl, ap, ◌∙◌, rules}
use Rattle.digest.specs.Blocks.{digest}
use Rattle.sha256.specs.Sha256.{bytes256, sha256}
use Rattle.sha256.proofs.sha256_of.Goals as goal

pub returns : goal.returns
unfolding digest sha256
returns c = c.written.ensures ∙ ap bytes256 c.folded.ensures
