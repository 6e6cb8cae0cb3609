-- `object::wrong_digits` meets its contract: each kind has a call of its own. Assumes nothing.
use native.Mathlib.Omega.{arith}
use borrow.Author.Rules.{rules}
use Rattle.hash.proofs.Widths.{width_1, width_256}
use Rattle.object.proofs.wrong_digits.Goals as goal

pub wrong_in-requires : goal.wrong_in-requires
wrong_in-requires c = record { w_in_bounds = omega (arith, c.width.ensures.0, width_1 c.in-Sha1.is); w_bound = c.width.ensures.2 }

pub wrong_in-requires-in-Sha256 : goal.wrong_in-requires-in-Sha256
wrong_in-requires-in-Sha256 c = record { w_in_bounds = omega (arith, c.width-in-Sha256.ensures.0, width_256 c.in-Sha256.is); w_bound = c.width-in-Sha256.ensures.2 }

pub returns-in-Sha1 : goal.returns-in-Sha1
returns-in-Sha1 c = rw c.in-Sha1.is (rw c.width.ensures.0 at c.wrong_in.ensures)

pub returns-in-Sha256 : goal.returns-in-Sha256
returns-in-Sha256 c = rw c.in-Sha256.is (rw c.width-in-Sha256.ensures.0 at c.wrong_in-in-Sha256.ensures)
