-- `levels::greatest` meets its contract: after i parents the greatest of i levels is held. Assumes nothing.
use borrow.Author.Rules.{rules}
use native.Mathlib.Omega.{arith}
use mathlib.Core.Path.{◌≡◌, sym, ap, ◌∙◌, subst}
use Prim.Native.Nat.{ℕ, ◌-◌, ◌<◌}
use lib.ListN.{get_or}
use Rattle.hash.specs.Bytes.{width_of}
use Rattle.levels.specs.Levels.{most}
use Rattle.levels.specs.StoreGraph.{store_graph}
use Rattle.levels.specs.Search.{tag}
use Rattle.levels.proofs.Turning.{most-next, most-none, larger_lt}
use Rattle.levels.proofs.greatest.Goals as goal
use Rattle.levels.proofs.greatest.Invariants.{level_on}

pub loop-i-init : goal.loop-i-init
loop-i-init c = (omega arith, omega arith, λ h d. sym (most-none _))

pub loop-i-preserved : goal.loop-i-preserved
loop-i-preserved c = let x = c.args in (
  search rules,
  subst (λ (z : ℕ). z < 4294967296) (sym c.larger_of-m.ensures) (larger_lt c.loop-i.m c.above-l.result 4294967296 c.loop-i.invariant.1 (omega (arith, c.above-l.ensures, c.word-v.ensures.1))),
  λ h d. c.larger_of-m.ensures
      ∙ most-next (level_on (store_graph (width_of x.kind) x.store.now x.n) x.levels.now x.k) c.loop-i.i c.loop-i.m c.above-l.result (c.loop-i.invariant.2 h d)
      (c.above-l.ensures ∙ ap (λ (z : ℕ). z - tag) (c.word-v.ensures.0 ∙ ap (λ (z : ℕ). get_or x.levels.now z 0) (c.parent_at-p.ensures c.requires (omega (arith, c.loop-i-test.true)) (omega (arith, c.loop-i-test.true, d))))),
)

pub returns : goal.returns
returns c = let x = c.args in
    record {
      is = λ h d. c.loop-i.invariant.2 h d ∙ ap (most (level_on (store_graph (width_of x.kind) x.store.now x.n) x.levels.now x.k)) (let e : c.loop-i.i ≡ x.c = omega arith in e);
      fits = c.loop-i.invariant.1;
    }
