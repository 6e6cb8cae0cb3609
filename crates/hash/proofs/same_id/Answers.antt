-- `hash::same_id` meets its contract: ids of another width, and ids that differ in a word, are not the same; twenty bytes that are the
-- same are all of a SHA-1 id, and of a SHA-256 id the words after them decide. Assumes nothing.
use mathlib.Core.Path.{sym, ◌∙◌}
use native.Mathlib.Omega.{arith}
use Rattle.hash.specs.Bytes.{width_of}
use Rattle.hash.proofs.Widths.{width_1, width_256, width_least}
use Rattle.hash.proofs.Words.{other_width, no-width, other_word, other-long, all_same, last-long}
use Rattle.hash.proofs.same_id.Goals as goal

pub returns-then-a-w : goal.returns-then-a-w
returns-then-a-w c = let x = c.args in sym (other_width _ x.a.now x.b.now (λ e. c.if-a-w.true (e ∙ sym c.width-w.ensures.0)))

pub returns-then-b-w : goal.returns-then-b-w
returns-then-b-w c = let x = c.args in sym (no-width _ x.a.now x.b.now (λ e. c.if-b-w.true (e ∙ sym c.width-w.ensures.0)))

pub returns-then-word_at : goal.returns-then-word_at
returns-then-word_at c = let x = c.args in sym (other_word _ x.a.now x.b.now 0 (λ e. c.if-word_at.true (c.word_at.ensures ∙ e ∙ sym c.word_at-2.ensures)))

pub returns-then-word_at-2 : goal.returns-then-word_at-2
returns-then-word_at-2 c = let x = c.args in sym (other_word _ x.a.now x.b.now 4 (λ e. c.if-word_at-2.true (c.word_at-3.ensures ∙ e ∙ sym c.word_at-4.ensures)))

pub returns-then-long_at : goal.returns-then-long_at
returns-then-long_at c = let x = c.args in sym (other-long _ x.a.now x.b.now 8 (λ e. c.if-long_at.true (c.long_at.ensures ∙ e ∙ sym c.long_at-2.ensures)))

pub returns-then-word_at-3 : goal.returns-then-word_at-3
returns-then-word_at-3 c = let x = c.args in sym (other_word _ x.a.now x.b.now 16 (λ e. c.if-word_at-3.true (c.word_at-5.ensures ∙ e ∙ sym c.word_at-6.ensures)))

pub word_at-requires-in-Sha256 : goal.word_at-requires-in-Sha256
word_at-requires-in-Sha256 c = omega (arith, width_256 c.in-Sha256.is)

pub word_at-requires-in-Sha256-2 : goal.word_at-requires-in-Sha256-2
word_at-requires-in-Sha256-2 c = omega (arith, width_256 c.in-Sha256.is)

pub returns-then-word_at-4 : goal.returns-then-word_at-4
returns-then-word_at-4 c = let x = c.args in sym (other_word _ x.a.now x.b.now 20 (λ e. c.if-word_at-4.true (c.word_at-in-Sha256.ensures ∙ e ∙ sym c.word_at-in-Sha256-2.ensures)))

pub long_at-requires-in-Sha256 : goal.long_at-requires-in-Sha256
long_at-requires-in-Sha256 c = omega (arith, width_256 c.in-Sha256.is)

pub long_at-requires-in-Sha256-2 : goal.long_at-requires-in-Sha256-2
long_at-requires-in-Sha256-2 c = omega (arith, width_256 c.in-Sha256.is)

pub returns-in-Sha1 : goal.returns-in-Sha1
returns-in-Sha1 c =
    let k = c in
    let x = k.args in
    let e = k.width-w.ensures.0 in
    all_same
    (width_of x.kind)
    x.a.now
    x.b.now
    (c.if-a-w.false ∙ e)
    (c.if-b-w.false ∙ e)
    (width_least x.kind)
    (λ k. omega (arith, c.type_inv.a k))
    (λ k. omega (arith, c.type_inv.b k))
    (sym c.word_at.ensures ∙ c.if-word_at.false ∙ c.word_at-2.ensures)
    (sym c.word_at-3.ensures ∙ c.if-word_at-2.false ∙ c.word_at-4.ensures)
    (sym c.long_at.ensures ∙ c.if-long_at.false ∙ c.long_at-2.ensures)
    (sym c.word_at-5.ensures ∙ c.if-word_at-3.false ∙ c.word_at-6.ensures)
    (width_1 c.in-Sha1.is)

pub returns-else-word_at-4 : goal.returns-else-word_at-4
returns-else-word_at-4 c =
    let k = c in
    let x = k.args in
    let e = k.width-w.ensures.0 in
    rw (c.long_at-in-Sha256.ensures, c.long_at-in-Sha256-2.ensures)
    (last-long
    (width_of x.kind)
    x.a.now
    x.b.now
    (c.if-a-w.false ∙ e)
    (c.if-b-w.false ∙ e)
    (width_least x.kind)
    (λ k. omega (arith, c.type_inv.a k))
    (λ k. omega (arith, c.type_inv.b k))
    (sym c.word_at.ensures ∙ c.if-word_at.false ∙ c.word_at-2.ensures)
    (sym c.word_at-3.ensures ∙ c.if-word_at-2.false ∙ c.word_at-4.ensures)
    (sym c.long_at.ensures ∙ c.if-long_at.false ∙ c.long_at-2.ensures)
    (sym c.word_at-5.ensures ∙ c.if-word_at-3.false ∙ c.word_at-6.ensures)
    (width_256 c.in-Sha256.is)
    (sym c.word_at-in-Sha256.ensures ∙ c.if-word_at-4.false ∙ c.word_at-in-Sha256-2.ensures))
