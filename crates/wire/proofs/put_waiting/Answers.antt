-- `wire::put_waiting` meets its contract: seven stores, each of the value that stands there. Assumes nothing.
use mathlib.Core.Path.{sym, subst}
use native.Mathlib.Omega.{arith}
use lib.ListN.{length-set}
use Rattle.wire.specs.Words.{PutsWaiting}
use Rattle.wire.proofs.InPlace.{waited, puts-waiting, puts-nothing}
use borrow.Author.Rules.{rules}
use Rattle.wire.proofs.put_waiting.Goals as goal

pub returns-then-words-lt-RECORD_WORDS : goal.returns-then-words-lt-RECORD_WORDS
returns-then-words-lt-RECORD_WORDS c = puts-nothing c.args.w c.args.words.now c.if-words-lt-RECORD_WORDS.true

pub bounds-words-5 : goal.bounds-words-5
bounds-words-5 c = simp length-set (omega arith)

pub bounds-words-6 : goal.bounds-words-6
bounds-words-6 c = simp length-set (omega arith)

pub bounds-words-7 : goal.bounds-words-7
bounds-words-7 c = simp length-set (omega arith)

pub bounds-words-8 : goal.bounds-words-8
bounds-words-8 c = simp length-set (omega arith)

pub bounds-words-9 : goal.bounds-words-9
bounds-words-9 c = simp length-set (omega arith)

pub bounds-words-10 : goal.bounds-words-10
bounds-words-10 c = simp length-set (omega arith)

pub returns : goal.returns
returns c = let x = c.args in
    subst
    (PutsWaiting x.w x.words.now)
    (sym (λ k.
    waited
    x.words.now
    (c.bit.ensures k)
    (c.bit-2.ensures k)
    (c.long.ensures k)
    (c.long-2.ensures k)
    (c.long-3.ensures k)
    (c.long32.ensures k)
    (c.long-4.ensures k)))
    (puts-waiting x.w x.words.now (search rules) (omega arith))
