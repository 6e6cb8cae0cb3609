-- `commit::bytes` meets its contract: where the end comes before the start nothing lies between them. Assumes nothing.
use mathlib.Core.Path.{◌≡◌, ◌∙◌, ap}
use Prim.Native.Nat.{◌-◌}
use native.Mathlib.Omega.{arith}
use Rattle.hash.specs.Bytes.{at}
use borrow.Author.Rules.{rules}
use Rattle.commit.proofs.bytes.Goals as goal

pub returns-then-end-start : goal.returns-then-end-start
returns-then-end-start c = let x = c.args in
    let n : 0 ≡ x.end - x.start = omega arith in
    c.part.ensures ∙ ap (at x.file.now x.start) n
