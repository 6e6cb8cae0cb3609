-- `sha256::small_a` meets its contract. Assumes nothing.
use Rattle.std.proofs.Common.{◌≡◌, sym, refl, ap, ◌∙◌, rules}
use Rattle.sha256.proofs.small_a.Goals as goal

pub returns : goal.returns
returns c = cc
