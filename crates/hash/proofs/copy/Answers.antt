-- `hash::copy` meets its contract: after k turns the first k bytes stand at their place and all else is as it was. Assumes nothing.
use mathlib.Core.Path.{◌≡◌, sym, ◌∙◌, ap}
use Prim.Native.Nat.{◌+◌, suc}
use native.Mathlib.Omega.{arith}
use mathlib.Core.List.{append_assoc}
use lib.ListN.{length, take, drop}
use lib.Seq.{paste, paste-zero, paste-suc, length-paste, take_all}
use Rattle.hash.proofs.Bytes.{set_down-fits}
use borrow.Author.Rules.{rules}
use Rattle.hash.proofs.copy.Goals as goal

pub loop-k-init : goal.loop-k-init
loop-k-init c = let x = c.args in (search rules, paste-zero x.out.now x.i x.x.now)

pub bounds-out-i : goal.bounds-out-i
bounds-out-i c =
    let x = c.args in
    let n : length c.loop-k.out ≡ length x.out.now = ap length c.loop-k.invariant.1 ∙ length-paste x.out.now x.i x.x.now c.loop-k.k (omega arith) (omega arith) in
    omega (arith, n)

pub loop-k-preserved : goal.loop-k-preserved
loop-k-preserved c =
    let x = c.args in
    let n : suc c.loop-k.k ≡ c.loop-k.k + 1 = omega arith in
    (search rules, rw c.loop-k.invariant.1 (paste-suc x.out.now x.i x.x.now c.loop-k.k 0 (omega arith) (omega arith) ∙ ap (paste x.out.now x.i x.x.now) n))

pub shape_of-out : goal.shape_of-out
shape_of-out c =
    let x = c.args in
    let n : length c.loop-k.out ≡ length x.out.now = ap length c.loop-k.invariant.1 ∙ length-paste x.out.now x.i x.x.now c.loop-k.k (omega arith) (omega arith) in
    n

pub returns : goal.returns
returns c =
    let x = c.args in
    let k : c.loop-k.k ≡ length x.x.now = omega arith in
    c.loop-k.invariant.1 ∙ ap (paste x.out.now x.i x.x.now) k
    ∙ rw (take_all (length x.x.now) x.x.now (omega arith)) (append_assoc (take x.i x.out.now) x.x.now (drop (x.i + length x.x.now) x.out.now))
    ∙ sym (set_down-fits x.out.now x.i x.x.now (omega arith))
