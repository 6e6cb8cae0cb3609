-- `odb::from_end` meets its contract. The number is read at the length less the distance, and at place 0 where the store is shorter, as the
-- definition has it. Assumes nothing.
use mathlib.Core.Path.{◌≡◌, ◌∙◌}
use Prim.Native.Nat.{◌-◌}
use native.Mathlib.Omega.{arith}
use lib.ListN.{length}
use borrow.Author.Rules.{rules}
use Rattle.odb.proofs.from_end.Goals as goal

pub returns-then-store-back : goal.returns-then-store-back
returns-then-store-back c =
    let z : length c.args.store.now - c.args.back ≡ 0 = omega arith in
    (rw z (c.wide.ensures.0 ∙ c.be32.ensures), c.wide.ensures.1)
