-- `wire::encode` meets its contract: a record's number fits 32 bits by its type, so the words read as the record again. Assumes nothing.
use Rattle.wire.specs.Words.{record_of}
use Rattle.wire.proofs.Back.{set_down-back}
use mathlib.Core.Path.{◌∙◌, ap}
use Rattle.hash.specs.Bytes.{set_down}
use borrow.Author.Rules.{rules}
use Rattle.wire.proofs.encode.Goals as goal

pub returns : goal.returns
returns c = let x = c.args in
    let e = c.put.ensures ∙ ap (set_down x.words.now 0) c.words_of-w.ensures in
    record { is = e; back = λ h. ap record_of e ∙ set_down-back x.words.now x.r (search rules) h }
