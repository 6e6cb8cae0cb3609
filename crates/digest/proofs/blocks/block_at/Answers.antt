-- `digest::blocks::block_at` meets its contract: a block of the message, the block that it ends in, with room for the length or without, and the block
-- of the length alone. Assumes nothing.
use borrow.Author.Rules.{rules}
use mathlib.Core.Path.{◌≡◌, refl, sym, ◌∙◌, ap}
use native.Mathlib.Omega.{arith}
use Prim.Native.Nat.{ℕ, ◌+◌, ◌*◌, ◌/◌, ◌%◌, ◌≤◌, ◌<◌}
use mathlib.Core.List.{List, ◌++◌}
use lib.ListN.{length, set, length-append}
use Rattle.hash.specs.Bytes.{at, set_down}
use Rattle.digest.specs.Blocks.{bit_length, filled, zeros}
use Rattle.digest.proofs.Padding.{whole-block, crowded-block, roomy-block, length-block}
use Rattle.digest.proofs.blocks.block_at.Goals as goal

pub returns-then-l-i : goal.returns-then-l-i
returns-then-l-i c = let x = c.args in
    let m = x.head.now ++ x.body.now in
    let e : length (x.head.now ++ x.body.now) ≡ length x.head.now + length x.body.now = length-append x.head.now x.body.now in
    c.set_length.ensures ∙ (rw e at (length-block m x.i (omega (arith, e, c.if-l-i.true)) c.requires))

pub returns-then-i-l : goal.returns-then-i-l
returns-then-i-l c = let x = c.args in
    let m = x.head.now ++ x.body.now in
    let e : length (x.head.now ++ x.body.now) ≡ length x.head.now + length x.body.now = length-append x.head.now x.body.now in
    c.message_at-b.ensures ∙ whole-block m x.i (omega (arith, e, c.if-i-l.true))

pub returns-then-k-lt56 : goal.returns-then-k-lt56
returns-then-k-lt56 c = let x = c.args in
    let m = x.head.now ++ x.body.now in
    let e : length (x.head.now ++ x.body.now) ≡ length x.head.now + length x.body.now = length-append x.head.now x.body.now in
    let i : x.i ≡ length m / 64 = omega (arith, e, c.if-i-l.false, c.if-l-i.false) in
    c.set_length-then-k-lt56.ensures
    ∙ ap (λ (s : List ℕ). set_down (set s ((length x.head.now + length x.body.now) % 64) 128) 56 (bit_length (length x.head.now + length x.body.now))) c.message_at-b.ensures
    ∙ (rw e at (roomy-block m x.i i (omega (arith, e, c.if-k-lt56.true))))

pub returns-else-k-lt56 : goal.returns-else-k-lt56
returns-else-k-lt56 c = let x = c.args in
    let m = x.head.now ++ x.body.now in
    let e : length (x.head.now ++ x.body.now) ≡ length x.head.now + length x.body.now = length-append x.head.now x.body.now in
    let i : x.i ≡ length m / 64 = omega (arith, e, c.if-i-l.false, c.if-l-i.false) in
    ap (λ (s : List ℕ). set s ((length x.head.now + length x.body.now) % 64) 128) c.message_at-b.ensures ∙ (rw e at (crowded-block m x.i i (omega (arith, e, c.if-k-lt56.false))))
