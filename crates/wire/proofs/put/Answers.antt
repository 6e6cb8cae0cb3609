-- `wire::put` meets its contract: after k turns the first k words stand at the start and all else is as it was. Assumes nothing.
use borrow.Author.Rules.{rules}
use mathlib.Core.Path.{◌≡◌, sym, ◌∙◌, ap}
use Prim.Native.Nat.{ℕ, ◌≤◌, ◌-◌, ◌+◌, suc}
use native.Mathlib.Omega.{arith}
use mathlib.Core.List.{List, ◌++◌}
use lib.ListN.{length, drop, set, get_or}
use lib.Seq.{paste, paste-zero, paste-suc, length-paste, take_all}
use Rattle.hash.proofs.Bytes.{set_down-fits, set_down-not}
use Rattle.wire.proofs.put.Goals as goal

pub returns-then-out-x : goal.returns-then-out-x
returns-then-out-x c = sym (set_down-not c.args.out.now 0 c.args.x.now (omega arith))

pub loop-k-init : goal.loop-k-init
loop-k-init c = let x = c.args in (search rules, paste-zero x.out.now 0 x.x.now)

pub bounds-out-k : goal.bounds-out-k
bounds-out-k c =
    let x = c.args in
    let n : length c.loop-k.out ≡ length x.out.now = ap length c.loop-k.invariant.1 ∙ length-paste x.out.now 0 x.x.now c.loop-k.k (omega arith) (omega arith) in
    omega (arith, n)

pub loop-k-preserved : goal.loop-k-preserved
loop-k-preserved c =
    let x = c.args in
    let z : c.loop-k.k ≡ 0 + c.loop-k.k = omega arith in
    let n : suc c.loop-k.k ≡ c.loop-k.k + 1 = omega arith in
    (search rules, rw c.loop-k.invariant.1 (ap (λ (j : ℕ). set (paste x.out.now 0 x.x.now c.loop-k.k) j (get_or x.x.now c.loop-k.k 0)) z ∙ paste-suc x.out.now 0 x.x.now c.loop-k.k 0 (omega arith) (omega arith) ∙ ap (paste x.out.now 0 x.x.now) n))

pub shape_of-out : goal.shape_of-out
shape_of-out c =
    let x = c.args in
    ap length c.loop-k.invariant.1 ∙ length-paste x.out.now 0 x.x.now c.loop-k.k (omega arith) (omega arith)

pub returns : goal.returns
returns c =
    let x = c.args in
    let k : c.loop-k.k ≡ length x.x.now = omega arith in
    c.loop-k.invariant.1 ∙ ap (paste x.out.now 0 x.x.now) k
    ∙ ap (λ (y : List ℕ). y ++ drop (0 + length x.x.now) x.out.now) (take_all (length x.x.now) x.x.now (omega arith))
    ∙ sym (set_down-fits x.out.now 0 x.x.now (omega arith))
