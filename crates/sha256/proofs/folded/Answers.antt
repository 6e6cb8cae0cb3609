-- `sha256::folded` meets its contract: after i turns the state is that of i blocks. Assumes nothing.
use Rattle.std.proofs.Common.{◌≡◌, ℕ, ◌+◌, ◌-◌, ◌<◌, ◌≤◌, List, ◌++◌, sym, refl, ap, ◌∙◌, arith, rules}
use Rattle.digest.specs.Blocks.{times, folds, block_words, block_count}
use Rattle.digest.proofs.Lists.{times-again}
use Rattle.sha256.specs.Sha256.{compress256, first256}
use Rattle.sha256.specs.declared.Eight.{Eight}
use Rattle.sha256.proofs.folded.Goals as goal

pub loop-i-init : goal.loop-i-init
unfolding times
loop-i-init c = (search rules, refl)

pub loop-i-preserved : goal.loop-i-preserved
loop-i-preserved c = let x = c.args in
    let l = c.loop-i in
    let m = x.head.now ++ x.body.now in
    (search rules, c.compress-h.ensures ∙ ap (compress256 l.h) c.block_words.ensures ∙ times-again (λ (k : ℕ) (h : Eight). compress256 h (block_words m k)) l.i first256 l.h l.invariant.1)

pub returns : goal.returns
returns c = let x = c.args in
    let l = c.loop-i in
    let e : l.i ≡ block_count (x.head.now ++ x.body.now) = omega (arith, c.count-n.ensures, c.loop-i-test.false, l.invariant.0) in
    l.invariant.1 ∙ ap (λ (k : ℕ). folds compress256 (x.head.now ++ x.body.now) k first256) e
