-- `levels::next_root` meets its contract: each way out is one law of the search, of any graph with so many nodes. Assumes nothing.
use native.Mathlib.Omega.{arith}
use Rattle.levels.proofs.Turning.{turns-all, turns-root-of, turns-skip}
use Rattle.levels.proofs.next_root.Goals as goal

pub returns-then-n-root : goal.returns-then-n-root
returns-then-n-root c = let x = c.args in
    λ g e. turns-all g x.levels.now x.top x.root (omega (arith, c.requires.2)) (omega (arith, c.if-n-root.true))

pub returns-then-w-lt1 : goal.returns-then-w-lt1
returns-then-w-lt1 c = let x = c.args in
    λ g e. turns-root-of g x.levels.now x.top x.root x.n e _ c.requires.1 c.requires.0 c.requires.2 c.if-n-root.false _ c.word-w.ensures.0 c.if-w-lt1.true c.put.ensures

pub returns : goal.returns
returns c = let x = c.args in
    λ g e. turns-skip g x.levels.now x.top x.root (omega (arith, c.if-n-root.false)) _ c.word-w.ensures.0 c.if-w-lt1.false
