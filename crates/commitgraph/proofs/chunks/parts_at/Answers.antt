-- `chunks::parts_at` meets its contract: it reads the entry and the first bytes of the ids on both its sides; of an id on the wrong side the
-- fan-out says what is not so. Assumes nothing.
use mathlib.Core.Path.{◌≡◌, refl, ap, ◌∙◌}
use mathlib.Core.Logic.{⊎_elim}
use Prim.Native.Nat.{ℕ, suc, ◌-◌, ◌≤◌, ◌<◌}
use native.Mathlib.Omega.{arith}
use borrow.Author.Tests.{ltb-true, ltb-false}
use Rattle.hash.proofs.Tests.{clash}
use Rattle.hash.proofs.Widths.{apart}
use Rattle.commitgraph.specs.Graph.{fan_at, first_byte}
use Rattle.commitgraph.proofs.Fan.{not_low, not-high}
use borrow.Author.Rules.{rules}
use Rattle.commitgraph.proofs.chunks.parts_at.Goals as goal

pub first_byte-requires : goal.first_byte-requires
first_byte-requires c =
    let h : c.fan_entry-m.result - 1 < c.args.count = omega (arith, c.fan_entry-m.ensures, c.requires.7, c.if-m-ne0.true) in
    (c.requires.2, omega (arith, c.requires.4, c.requires.5, apart c.args.w h))

pub returns-then-b-first_byte : goal.returns-then-b-first_byte
returns-then-b-first_byte c =
    let x = c.args in
    let f = c.fan_entry-m in
    let b = c.first_byte in (
      λ e. clash e refl,
      λ e.
          not_low x.w x.graph.now x.b (f.result - 1) c.requires.6 (omega (arith, f.ensures, c.if-m-ne0.true)) (omega (arith, f.ensures, c.requires.7, c.requires.3, c.if-m-ne0.true)) (omega (arith, b.ensures)) (omega (arith, b.ensures.0, c.if-b-first_byte.true)),
    )

pub first_byte-requires-then-m-count : goal.first_byte-requires-then-m-count
first_byte-requires-then-m-count c =
    (c.requires.2, omega (arith, c.requires.4, c.requires.5, apart c.args.w c.if-m-count.true))

pub returns-then-m-count : goal.returns-then-m-count
returns-then-m-count c =
    let low : let x = c.args in (k : ℕ) → suc k ≡ fan_at x.graph.now x.b → first_byte x.w x.graph.now k ≤ x.b = λ k e. let x = c.args in
    let m = c.fan_entry-m.result in
    let h : m ≡ suc k = omega (arith, c.fan_entry-m.ensures, e) in
    ⊎_elim
    (λ t.
    let z : k ≡ m - 1 = omega arith in
    rw z (omega (arith, t.first_byte.ensures.0, t.if-b-first_byte.false)))
    (λ t. absurd (omega (arith, t.if-m-ne0.false, h)))
    c.if-m-ne0.branch-raw in
    let x = c.args in
    let f = c.fan_entry-m in
    let b = c.first_byte-then-m-count in
    let at : b.result ≡ first_byte x.w x.graph.now (fan_at x.graph.now x.b) = b.ensures.0 ∙ ap (first_byte x.w x.graph.now) f.ensures in (
      λ e. record { low = low; high = λ h. omega (arith, at, ltb-true x.b b.result e) },
      λ e. not-high x.w x.graph.now x.b c.requires.6 (omega (arith, f.ensures, c.requires.3, c.if-m-count.true)) (omega (arith, at, b.ensures.1)) (omega (arith, at, ltb-false x.b b.result e)),
    )

pub returns : goal.returns
returns c =
    let low : let x = c.args in (k : ℕ) → suc k ≡ fan_at x.graph.now x.b → first_byte x.w x.graph.now k ≤ x.b = λ k e. let x = c.args in
    let m = c.fan_entry-m.result in
    let h : m ≡ suc k = omega (arith, c.fan_entry-m.ensures, e) in
    ⊎_elim
    (λ t.
    let z : k ≡ m - 1 = omega arith in
    rw z (omega (arith, t.first_byte.ensures.0, t.if-b-first_byte.false)))
    (λ t. absurd (omega (arith, t.if-m-ne0.false, h)))
    c.if-m-ne0.branch-raw in
    (λ e. record { low = low; high = λ h. absurd (omega (arith, h, c.if-m-count.false, c.fan_entry-m.ensures, c.requires.3)) }, λ e. clash refl e)
