-- `sha256::turned` meets its contract. Assumes nothing.
use Rattle.std.proofs.Common.{◌≡◌, sym, refl, ap, ◌∙◌, rules}
use Rattle.sha256.proofs.turned.Goals as goal

pub returns : goal.returns
returns c = cc
