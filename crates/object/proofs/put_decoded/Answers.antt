-- `object::put_decoded` meets its contract: each kind has an array of its own width. Assumes nothing.
use native.Mathlib.Omega.{arith}
use Rattle.hash.proofs.Widths.{width_1, width_256}
use Rattle.object.proofs.Digits.{decoded_down}
use borrow.Author.Rules.{rules}
use Rattle.object.proofs.put_decoded.Goals as goal

pub decode_to-requires : goal.decode_to-requires
decode_to-requires c =
    let e = c.width.ensures.0 in
    let k = c.in-Sha1.is in
    record { w_in_bounds = omega (arith, c.requires.kind_in_bounds, e, width_1 k); body_value = rw e (rw k at c.requires.body_value); w_in_bounds_2 = omega (arith, e) }

pub decode_to-requires-in-Sha256 : goal.decode_to-requires-in-Sha256
decode_to-requires-in-Sha256 c =
    let e = c.width-in-Sha256.ensures.0 in
    let k = c.in-Sha256.is in
    record { w_in_bounds = omega (arith, c.requires.kind_in_bounds, e, width_256 k); body_value = rw e (rw k at c.requires.body_value); w_in_bounds_2 = omega (arith, e) }

pub returns-in-Sha1 : goal.returns-in-Sha1
returns-in-Sha1 c =
    let x = c.args in
    rw c.in-Sha1.is (decoded_down x.k x.out.now c.decode_to.auto.out (rw c.width.ensures.0 at c.decode_to.ensures) c.set_nth.ensures)

pub returns-in-Sha256 : goal.returns-in-Sha256
returns-in-Sha256 c =
    let x = c.args in
    rw c.in-Sha256.is (decoded_down x.k x.out.now c.decode_to-in-Sha256.auto.out (rw c.width-in-Sha256.ensures.0 at c.decode_to-in-Sha256.ensures) c.set_nth-in-Sha256.ensures)
