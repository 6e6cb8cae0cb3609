-- `sha1::sha1_of` meets its contract. Assumes nothing.
use Rattle.std.proofs.Common.{◌≡◌, sym, refl, ap, ◌∙◌, rules}
use Rattle.digest.specs.Blocks.{digest}
use Rattle.sha1_hash.specs.Sha1.{bytes1, sha1}
use Rattle.sha1_hash.proofs.sha1_of.Goals as goal

pub returns : goal.returns
unfolding digest sha1
returns c = c.written.ensures ∙ ap bytes1 c.folded.ensures
