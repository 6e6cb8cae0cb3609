-- `sha1::choice_rounds` meets its contract: after t turns the state is that of t rounds. Assumes nothing.
use Rattle.std.proofs.Common.{◌≡◌, ℕ, ◌+◌, ◌-◌, ◌<◌, ◌≤◌, sym, refl, ap, ◌∙◌, arith, rules}
use Rattle.digest.specs.Blocks.{times}
use Rattle.digest.proofs.Lists.{times-again}
use Rattle.sha1_hash.specs.Sha1.{round1}
use Rattle.sha1_hash.proofs.Rounds.{round-choose}
use Rattle.sha1_hash.proofs.choice_rounds.Goals as goal

pub loop-t-init : goal.loop-t-init
unfolding times
loop-t-init c = (search rules, refl)

pub loop-t-preserved : goal.loop-t-preserved
loop-t-preserved c = let l = c.loop-t in
    let x = c.args in (
      search rules,
      round-choose x.w.now l.t l.v c.turned-v.result c.choice.result c.loop-t-test.true c.choice.ensures c.turned-v.ensures
          ∙ times-again (round1 x.w.now) l.t x.h l.v l.invariant.1,
    )

pub returns : goal.returns
returns c = let l = c.loop-t in
    let x = c.args in
    let e : l.t ≡ 20 = omega arith in
    l.invariant.1 ∙ ap (λ (k : ℕ). times (round1 x.w.now) k x.h) e
