-- `sha256::small_e` meets its contract. Assumes nothing.
use Rattle.std.proofs.Common.{◌≡◌, sym, refl, ap, ◌∙◌, rules}
use Rattle.sha256.proofs.small_e.Goals as goal

pub returns : goal.returns
returns c = cc
