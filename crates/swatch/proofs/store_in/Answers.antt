-- `store_in` meets its contract: by the input's length. Assumes nothing.
use borrow.Author.Tests.{lt-ltb, le-ltb}
use native.Mathlib.Omega.{arith}
use Prim.Native.Nat.{◌-◌}
use lib.ListN.{length, drop, length-drop}
use lib.Seq.{take_all}
use Rattle.swatch.specs.Text.{store_in}
use Rattle.swatch.proofs.store_in.Goals as goal

pub returns-then-input-lt-TIP_BYTES : goal.returns-then-input-lt-TIP_BYTES
unfolding store_in
returns-then-input-lt-TIP_BYTES c = λ e. simp (lt-ltb _ _ c.if-input-lt-TIP_BYTES.true) e

pub returns : goal.returns
unfolding store_in
returns c = λ e. let b = c.args.input.now in simp (le-ltb _ _ c.if-input-lt-TIP_BYTES.false) (take_all (length b - 20) (drop 20 b) (simp length-drop (omega arith)))
