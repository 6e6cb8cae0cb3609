-- `sha1::last_rounds` meets its contract: after t turns the state is that of t rounds, if it was so before. Assumes nothing.
use Rattle.std.proofs.Common.{◌≡◌, ℕ, ◌+◌, ◌-◌, ◌<◌, ◌≤◌, sym, refl, ap, ◌∙◌, arith, rules}
use Rattle.digest.specs.Blocks.{times}
use Rattle.digest.proofs.Lists.{times-again}
use Rattle.sha1_hash.specs.Sha1.{round1}
use Rattle.sha1_hash.specs.declared.Five.{Five}
use Rattle.sha1_hash.proofs.Rounds.{round-last}
use Rattle.sha1_hash.proofs.last_rounds.Goals as goal

pub loop-t-init : goal.loop-t-init
loop-t-init c = (search rules, search rules, λ h e. e)

pub loop-t-preserved : goal.loop-t-preserved
loop-t-preserved c = let l = c.loop-t in
    let x = c.args in (
      search rules,
      search rules,
      λ h e.
          round-last x.w.now l.t l.v c.turned-v.result c.odd.result l.invariant.0 c.odd.ensures c.turned-v.ensures
          ∙ times-again (round1 x.w.now) l.t h l.v (l.invariant.2 h e),
    )

pub returns : goal.returns
returns c = λ h q.
    let l = c.loop-t in
    let x = c.args in
    let e : l.t ≡ 80 = omega arith in
    l.invariant.2 h q ∙ ap (λ (k : ℕ). times (round1 x.w.now) k h) e
