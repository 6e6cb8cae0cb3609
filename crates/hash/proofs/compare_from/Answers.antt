-- `hash::compare_from` meets its contract: the lower word decides, and where the words are the same, what follows them. Assumes nothing.
use Rattle.std.proofs.Common.{sym, ◌∙◌, arith}
use Rattle.hash.proofs.Words.{compare-word, word-less, word_greater}
use Rattle.hash.proofs.compare_from.Goals as goal

pub returns-then-x-y : goal.returns-then-x-y
returns-then-x-y c = let x = c.args in
    sym (word-less x.a.now x.b.now x.from (λ k. omega (arith, c.type_inv.a k)) (λ k. omega (arith, c.type_inv.b k)) (omega arith) (omega arith) (omega (arith, c.if-x-y.true, c.word_at-y.ensures, c.word_at-x.ensures)))

pub returns-then-y-x : goal.returns-then-y-x
returns-then-y-x c = let x = c.args in
    sym (word_greater x.a.now x.b.now x.from (λ k. omega (arith, c.type_inv.a k)) (λ k. omega (arith, c.type_inv.b k)) (omega arith) (omega arith) (omega (arith, c.if-y-x.true, c.word_at-y.ensures, c.word_at-x.ensures)))

pub returns : goal.returns
returns c = let x = c.args in
    c.compare_bytes-2.ensures
    ∙ sym (compare-word x.a.now x.b.now x.from (λ k. omega (arith, c.type_inv.a k)) (λ k. omega (arith, c.type_inv.b k)) (omega arith) (omega arith) (omega (arith, c.if-y-x.false, c.if-x-y.false, c.word_at-y.ensures, c.word_at-x.ensures)))
