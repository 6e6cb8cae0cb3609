-- `digest::blocks::block_words` meets its contract: the block that lies in the body, none past the last, or the block put together. Assumes nothing.
use borrow.Author.Rules.{rules}
use mathlib.Core.Path.{◌≡◌, refl, sym, ◌∙◌, ap}
use native.Mathlib.Omega.{arith}
use Prim.Native.Nat.{ℕ, ◌+◌, ◌-◌, ◌*◌, ◌/◌, ◌≤◌, ◌<◌}
use mathlib.Core.List.{List, ◌++◌}
use lib.ListN.{length, take, drop}
use Rattle.hash.specs.Bytes.{at}
use Rattle.digest.specs.Blocks.{words_of, block_count}
use Rattle.digest.proofs.Padding.{count_of, lying_words, made-words, past_words}
use Rattle.digest.proofs.blocks.block_words.Goals as goal

pub returns-then-n-i : goal.returns-then-n-i
unfolding at
returns-then-n-i c = let x = c.args in
    let a = x.i * 64 - length x.head.now in
    let e : x.i * 64 - length x.head.now + 64 - (x.i * 64 - length x.head.now) ≡ 64 = omega arith in
    c.words_of.ensures
    ∙ ap (λ (n : ℕ). words_of (take n (drop a x.body.now))) e
    ∙ lying_words x.head.now x.body.now x.i c.if-n-i.true c.if-i-l.true

pub returns-then-count_for-i : goal.returns-then-count_for-i
returns-then-count_for-i c = let x = c.args in
    let n = count_of x.head.now x.body.now c.count_for.result c.count_for.ensures in
    past_words (x.head.now ++ x.body.now) x.i (rw n at c.if-count_for-i.true)

pub block_at-b-requires : goal.block_at-b-requires
unfolding block_count
block_at-b-requires c = let x = c.args in
    let n = count_of x.head.now x.body.now c.count_for.result c.count_for.ensures in
    omega (arith, n, c.if-count_for-i.false)

pub returns : goal.returns
returns c = let x = c.args in
    c.words_of-2.ensures ∙ made-words c.block_at-b.result (x.head.now ++ x.body.now) x.i c.block_at-b.ensures
