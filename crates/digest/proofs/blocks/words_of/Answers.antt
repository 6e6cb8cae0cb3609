-- `digest::blocks::words_of` meets its contract: after t turns the first t words are those of the block. Assumes nothing.
use borrow.Author.Rules.{rules}
use mathlib.Core.Path.{◌≡◌, refl, sym, ◌∙◌, ap}
use native.Mathlib.Omega.{arith}
use Prim.Native.Nat.{ℕ, ◌+◌, ◌-◌, ◌≤◌, ◌<◌}
use lib.ListN.{length, take, length-set}
use Rattle.digest.specs.Blocks.{made, block_word, words_of}
use Rattle.digest.proofs.Lists.{made_again, made_all}
use Rattle.digest.proofs.blocks.words_of.Goals as goal

pub loop-t-init : goal.loop-t-init
unfolding made
loop-t-init c = (search rules, refl, refl)

pub loop-t-preserved : goal.loop-t-preserved
loop-t-preserved c = let x = c.args in
    let l = c.loop-t in
    (search rules, length-set l.w l.t c.be32.result ∙ l.invariant.1, made_again (block_word x.s.now) l.w l.t l.invariant.2 c.be32.result (omega arith) c.be32.ensures)

pub returns : goal.returns
unfolding words_of
returns c = let x = c.args in
    let l = c.loop-t in
    let e : l.t ≡ 16 = omega arith in
    made_all (block_word x.s.now) l.w 16 (rw e at l.invariant.2) l.invariant.1
