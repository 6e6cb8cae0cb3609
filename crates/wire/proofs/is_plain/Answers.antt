-- `wire::is_plain` meets its contract: the bits of all are no smaller than each word's, so each is as its record has it. Assumes nothing.
use mathlib.Core.Path.{sym, subst}
use Prim.Native.Nat.{◌≤◌}
use native.Mathlib.Omega.{arith}
use lib.Dec.{T}
use lib.ListN.{length}
use borrow.Author.Tests.{eqb-true}
use Rattle.wire.specs.Words.{record_words}
use Rattle.wire.proofs.InPlace.{plain}
use borrow.Author.Rules.{rules}
use Rattle.wire.proofs.is_plain.Goals as goal

pub returns-then-words-lt-RECORD_WORDS : goal.returns-then-words-lt-RECORD_WORDS
returns-then-words-lt-RECORD_WORDS c = λ e. absurd (subst T (sym e) tt)

pub returns : goal.returns
returns c = λ e.
    let w = c.args.words.now in
    let h : record_words ≤ length w = omega arith in
    let z = eqb-true c.either-5.result 0 e in
    let none = c.either-5.ensures in
    let numbers = c.either-numbers.ensures in
    let few = c.over-2.ensures.1 (omega (arith, z, none)) in
    let bits = c.either-bits.ensures in
    let state = c.either-state.ensures in
    let rest = c.either-4.ensures in
    let a = c.either.ensures in
    let b = c.either-2.ensures in
    let q = c.either-3.ensures in
    (h, plain w h (omega (arith, few, bits, state, a)) (omega (arith, few, bits, state, a)) (omega (arith, few, bits, state, b)) (omega (arith, few, bits, state, b)) (omega (arith, few, bits, rest, q)) (omega (arith, few, bits, rest, q)) (c.over.ensures.1 (omega (arith, z, none, numbers))) (omega (arith, few, bits, rest)) (c.no_kind.ensures.1 (omega (arith, z, none, numbers))))
