-- `hashtable::words::same_rest` meets its contract: as the twenty bytes before. Assumes nothing.
use mathlib.Core.Path.{refl, sym, ◌∙◌}
use native.Mathlib.Omega.{arith}
use Prim.Native.Nat.{◌+◌}
use borrow.Author.Tests.{eqb-true, eqb-false}
use Rattle.hash.proofs.Tests.{clash}
use Rattle.hashtable.proofs.TableWords.{agree-12, agree_less, agree_u32, agree_u64}
use borrow.Author.Rules.{rules}
use Rattle.hashtable.proofs.words.same_rest.Goals as goal

pub returns-then-word : goal.returns-then-word
returns-then-word c =
    let x = c.args in
    record { yes = λ e. clash e refl; not = λ _ f. c.if-word.true (c.word.ensures ∙ agree_u64 x.names.now x.i x.id.now 20 (λ m h. f m (omega arith)) ∙ sym c.word-2.ensures) }

pub returns : goal.returns
returns c =
    let x = c.args in
    record {
      yes = λ e. agree-12 x.names.now x.i x.id.now (λ n. omega (arith, c.shared_slice_known-1.given n)) (λ n. omega (arith, c.shared_slice_known-2-1.given n))
          (sym c.word.ensures ∙ c.if-word.false ∙ c.word-2.ensures)
          (sym c.half.ensures.0 ∙ eqb-true c.half.result c.half-2.result e ∙ c.half-2.ensures.0);
      not = λ e f. eqb-false c.half.result c.half-2.result e (c.half.ensures.0 ∙ agree_u32 x.names.now (x.i + 8) x.id.now 28 (agree_less x.names.now x.i x.id.now 20 8 12 4 (omega arith) f) ∙ sym c.half-2.ensures.0);
    }
