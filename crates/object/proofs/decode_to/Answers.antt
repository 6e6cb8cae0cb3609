-- `object::decode_to` meets its contract: the bytes decoded so far stand before what the digits that are left decode to, and before what stood there.
-- Assumes nothing.
use borrow.Author.Rules.{rules}
use Prim.Native.Nat.{◌-◌}
use native.Mathlib.Omega.{arith}
use Rattle.object.proofs.Digits.{Decoded, decoded_start, decoded_more, decoded_all, high_digit, low_digit}
use Rattle.object.proofs.decode_to.Goals as goal

pub loop-i-init : goal.loop-i-init
loop-i-init c = decoded_start _ _ _ _

pub hex_value-requires : goal.hex_value-requires
hex_value-requires c = high_digit c.args.w c.args.body.now c.args.at c.loop-i.i c.requires.w_in_bounds c.requires.body_value (search rules)

pub overflow_mul-out : goal.overflow_mul-out
overflow_mul-out c = omega (arith, c.hex_value.ensures, high_digit c.args.w c.args.body.now c.args.at c.loop-i.i c.requires.w_in_bounds c.requires.body_value (search rules))

pub hex_value-requires-in-loop-i : goal.hex_value-requires-in-loop-i
hex_value-requires-in-loop-i c = low_digit c.args.w c.args.body.now c.args.at c.loop-i.i c.requires.w_in_bounds c.requires.body_value (search rules)

pub overflow_add-out : goal.overflow_add-out
overflow_add-out c = omega (arith, c.hex_value.ensures, c.hex_value-in-loop-i.ensures, high_digit c.args.w c.args.body.now c.args.at c.loop-i.i c.requires.w_in_bounds c.requires.body_value (search rules), low_digit c.args.w c.args.body.now c.args.at c.loop-i.i c.requires.w_in_bounds c.requires.body_value (search rules))

pub bounds-out-i : goal.bounds-out-i
bounds-out-i c = omega (arith, c.loop-i.invariant.width, c.loop-i-test.true, c.requires.w_in_bounds_2)

pub loop-i-preserved : goal.loop-i-preserved
loop-i-preserved c = decoded_more c.requires.w_in_bounds_2 c.loop-i.invariant (search rules) c.requires.w_in_bounds c.requires.body_value c.hex_value.ensures c.hex_value-in-loop-i.ensures

pub shape_of-out : goal.shape_of-out
shape_of-out c = c.loop-i.invariant.width

pub returns : goal.returns
returns c = decoded_all c.loop-i.invariant (search rules)
