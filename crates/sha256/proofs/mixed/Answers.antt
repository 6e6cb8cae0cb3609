-- `sha256::mixed` meets its contract. Assumes nothing.
use Rattle.std.proofs.Common.{◌≡◌, sym, refl, ap, ◌∙◌, rules}
use Rattle.sha256.proofs.mixed.Goals as goal

pub returns : goal.returns
returns c = cc
