-- `idlist::order_at` meets its contract: the id with the lower head is the lower, and where the heads are the same all bytes are compared.
-- Assumes nothing.
use mathlib.Core.Path.{◌≡◌, sym}
use Prim.Native.Nat.{ℕ}
use native.Mathlib.Omega.{arith}
use Rattle.idlist.proofs.Heads.{lower-head, higher-head}
use Rattle.idlist.proofs.order_at.Goals as goal

pub returns-then-here-key : goal.returns-then-here-key
returns-then-here-key c =
    let x = c.args in (
      sym (lower-head x.bytes.now x.place x.id.now (λ n. omega (arith, c.shared_slice_known-1.given n)) (λ n. omega (arith, c.shared_slice_known-2-1.given n)) c.requires.0 c.requires.1 c.requires.2 c.if-here-key.true),
      λ e. omega (arith, c.if-here-key.true),
      λ e. let z : ◌≡◌ {A = ℕ} 0 1 = cc e in absurd (omega arith),
    )

pub returns-then-key-here : goal.returns-then-key-here
returns-then-key-here c =
    let x = c.args in (
      sym (higher-head x.bytes.now x.place x.id.now (λ n. omega (arith, c.shared_slice_known-1.given n)) (λ n. omega (arith, c.shared_slice_known-2-1.given n)) c.requires.0 c.requires.1 c.requires.2 c.if-key-here.true),
      λ e. let z : ◌≡◌ {A = ℕ} 0 1 = cc e in absurd (omega arith),
      λ e. omega (arith, c.if-key-here.true),
    )

pub returns : goal.returns
returns c = (rw (sym c.part.ensures) c.compare.ensures, λ e. omega (arith, c.if-key-here.false), λ e. omega (arith, c.if-here-key.false))
