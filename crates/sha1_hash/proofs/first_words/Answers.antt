-- `sha1::first_words` meets its contract: after t turns the first t words are those of the block. Assumes nothing.
use Rattle.std.proofs.Common.{◌≡◌, ℕ, ◌+◌, ◌-◌, ◌<◌, ◌≤◌, length, get_or, take, sym, refl, ap, ◌∙◌, arith, length-set, rules}
use Rattle.digest.specs.Blocks.{made}
use Rattle.digest.proofs.Lists.{made_again}
use Rattle.sha1_hash.specs.Sha1.{word1}
use Rattle.sha1_hash.proofs.Rounds.{own-word1}
use Rattle.sha1_hash.proofs.first_words.Goals as goal

pub loop-t-init : goal.loop-t-init
unfolding made
loop-t-init c = (search rules, refl, refl)

pub loop-t-preserved : goal.loop-t-preserved
loop-t-preserved c = let x = c.args in
    let l = c.loop-t in
    let v : ℕ = get_or x.block l.t 0 in
    (search rules, length-set l.w l.t v ∙ l.invariant.1, made_again (word1 x.block) l.w l.t l.invariant.2 v (omega arith) (own-word1 x.block l.t v (made (word1 x.block) l.t) c.loop-t-test.true refl))

pub returns : goal.returns
returns c = let l = c.loop-t in
    let e : l.t ≡ 16 = omega arith in
    rw e at l.invariant.2
