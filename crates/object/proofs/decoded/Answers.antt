-- `object::decoded` meets its contract: each kind has a call of its own. Assumes nothing.
use native.Mathlib.Omega.{arith}
use borrow.Author.Rules.{rules}
use Rattle.hash.proofs.Widths.{width_1, width_256}
use Rattle.object.proofs.decoded.Goals as goal

pub decode-requires : goal.decode-requires
decode-requires c = record {
  w_in_bounds = omega (arith, c.width.ensures.0, width_1 c.in-Sha1.is);
  body_value = rw c.width.ensures.0 (rw c.in-Sha1.is at c.requires.body_value);
  w_bound = c.width.ensures.2;
}

pub decode-requires-in-Sha256 : goal.decode-requires-in-Sha256
decode-requires-in-Sha256 c = record {
  w_in_bounds = omega (arith, c.width-in-Sha256.ensures.0, width_256 c.in-Sha256.is);
  body_value = rw c.width-in-Sha256.ensures.0 (rw c.in-Sha256.is at c.requires.body_value);
  w_bound = c.width-in-Sha256.ensures.2;
}

pub returns-in-Sha1 : goal.returns-in-Sha1
returns-in-Sha1 c = rw c.in-Sha1.is (rw c.width.ensures.0 at c.decode.ensures)

pub returns-in-Sha256 : goal.returns-in-Sha256
returns-in-Sha256 c = rw c.in-Sha256.is (rw c.width-in-Sha256.ensures.0 at c.decode-in-Sha256.ensures)
