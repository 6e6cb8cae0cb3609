-- `hash::be32` meets its contract: where four bytes stand they are read at once, else those that are left. Assumes nothing.
use Rattle.std.proofs.Common.{◌≡◌, refl, ◌∙◌, ap, ℕ, arith}
use native.Mathlib.Nat.{add-zero}
use Rattle.hash.specs.Bytes.{u32_at}
use Rattle.hash.proofs.Bytes.{u32_at-at}
use Rattle.hash.proofs.be32.Goals as goal

pub returns : goal.returns
unfolding u32_at
returns c = let x = c.args in
    let e : c.word.result ≡ u32_at c.part-rest.result.now 0 = c.word.ensures ∙ rw (c.byte_at.ensures, c.byte_at-2.ensures, c.byte_at-3.ensures, c.byte_at-4.ensures) refl in
    e ∙ ap (λ l. u32_at l 0) c.part-rest.ensures ∙ u32_at-at x.s.now x.i 4 0 (omega arith) ∙ ap (u32_at x.s.now) (add-zero x.i)
