-- `walk::less` meets its contract: generations are set against generations, then seconds against seconds. Assumes nothing.
use Rattle.std.proofs.Common.{◌∙◌, ltb, eqb}
use Rattle.hash.proofs.Tests.{by_cases}
use Rattle.date.proofs.Orders.{less}
use Rattle.walk.specs.Lookup.{lt_pair}
use Rattle.walk.proofs.less.Goals as goal

pub returns : goal.returns
unfolding lt_pair
returns c = let a = c.args.a in
    let b = c.args.b in
    c.lt.ensures
    ∙ by_cases (ltb a.generation.0 b.generation.0) (λ h. rw h)
    (λ h. by_cases (eqb a.generation.0 b.generation.0) (λ e. rw (h, e) (less a.time.0 b.time.0)) (λ e. rw (h, e)))
