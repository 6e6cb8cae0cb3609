-- `sha256::schedule` meets its contract: after t turns the first t words are those of the schedule. Assumes nothing.
use Rattle.std.proofs.Common.{◌≡◌, ℕ, ◌+◌, ◌-◌, ◌<◌, ◌≤◌, List, length, get_or, take, sym, refl, ap, ◌∙◌, arith, length-set, rules}
use Rattle.digest.specs.Blocks.{made}
use Rattle.digest.proofs.Lists.{made_again, made_all}
use Rattle.sha256.specs.Sha256.{word256}
use Rattle.sha256.proofs.Rounds.{new-word256}
use Rattle.sha256.proofs.schedule.Goals as goal

pub loop-t-init : goal.loop-t-init
loop-t-init c = (search rules, search rules, search rules, λ m e. e)

pub loop-t-preserved : goal.loop-t-preserved
loop-t-preserved c = let l = c.loop-t in
    let v = c.mixed.result in
    (search rules, search rules, length-set l.w l.t v ∙ l.invariant.2, λ m e. made_again (word256 m) l.w l.t (l.invariant.3 m e) v (omega arith) (new-word256 m l.w l.t v l.invariant.0 (l.invariant.3 m e) c.mixed.ensures))

pub returns : goal.returns
returns c = let l = c.loop-t in
    let f = c.first_words-w in
    let x = c.args in
    let e : l.t ≡ 64 = omega arith in
    made_all (word256 x.block) l.w 64 (rw e at (l.invariant.3 x.block f.ensures)) l.invariant.2
