-- `ahead::words_ahead` meets its contract: with a file by its layout, without one nothing is read. Assumes nothing.
use Rattle.std.specs.Prelude.{Option}
use Rattle.commitgraph.specs.declared.Layout.{Layout}
use mathlib.Core.Path.{◌≡◌, refl, sym, ap, subst, ◌∙◌}
use Prim.Native.Nat.{ℕ, ◌+◌}
use Rattle.tested.specs.Ahead.{near_at, words_at, words_ahead}
use Rattle.hash.specs.Bytes.{width_of}
use Rattle.tested.proofs.ahead.words_ahead.Goals as goal

pub returns-in-Some : goal.returns-in-Some
returns-in-Some c = let x = c.args in
    let l = c.in-Some.l in
    let parent = c.parent-parent.ensures in
    let one = c.near_after-one.ensures ∙ ap (λ (q : ℕ). near_at x.line.now x.from x.n (x.k + 1) q) parent in
    subst
    (λ (y : Option Layout). c.words_at.result ≡ words_ahead (width_of x.kind) y x.names.now x.marks.now x.line.now x.cap x.from x.n x.k x.graph.now x.store.now x.near)
    (sym c.in-Some.is)
    (c.words_at.ensures ∙ (λ i. words_at (width_of x.kind) x.names.now x.marks.now x.line.now x.cap x.from x.n x.k x.graph.now l x.store.now (parent i) (one i)))

pub returns-in-None : goal.returns-in-None
returns-in-None c = let x = c.args in subst (λ (y : Option Layout). ◌≡◌ {A = ℕ} 0 (words_ahead (width_of x.kind) y x.names.now x.marks.now x.line.now x.cap x.from x.n x.k x.graph.now x.store.now x.near)) (sym c.in-None.is) refl
