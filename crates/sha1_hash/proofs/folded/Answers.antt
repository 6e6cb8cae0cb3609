-- `sha1::folded` meets its contract: after i turns the state is that of i blocks. Assumes nothing.
use Rattle.std.proofs.Common.{◌≡◌, ℕ, ◌+◌, ◌-◌, ◌<◌, ◌≤◌, List, ◌++◌, sym, refl, ap, ◌∙◌, arith, rules}
use Rattle.digest.specs.Blocks.{times, folds, block_words, block_count}
use Rattle.digest.proofs.Lists.{times-again}
use Rattle.sha1_hash.specs.Sha1.{compress1, first1}
use Rattle.sha1_hash.specs.declared.Five.{Five}
use Rattle.sha1_hash.proofs.folded.Goals as goal

pub loop-i-init : goal.loop-i-init
unfolding times
loop-i-init c = (search rules, refl)

pub loop-i-preserved : goal.loop-i-preserved
loop-i-preserved c = let x = c.args in
    let l = c.loop-i in
    let m = x.head.now ++ x.body.now in
    (search rules, c.compress-h.ensures ∙ ap (compress1 l.h) c.block_words.ensures ∙ times-again (λ (k : ℕ) (h : Five). compress1 h (block_words m k)) l.i first1 l.h l.invariant.1)

pub returns : goal.returns
returns c = let x = c.args in
    let l = c.loop-i in
    let e : l.i ≡ block_count (x.head.now ++ x.body.now) = omega (arith, c.count-n.ensures, c.loop-i-test.false, l.invariant.0) in
    l.invariant.1 ∙ ap (λ (k : ℕ). folds compress1 (x.head.now ++ x.body.now) k first1) e
