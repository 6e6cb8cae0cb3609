-- `graphbytes::put_word` meets its contract: the four bytes are the number's. Assumes nothing.
use mathlib.Core.Path.{◌∙◌, ap}
use Rattle.hash.specs.Bytes.{set_down}
use Rattle.graphbytes.proofs.Fill.{four_same}
use Rattle.graphbytes.proofs.put_word.Goals as goal

pub returns : goal.returns
returns c = let x = c.args in c.set_down.ensures ∙ ap (set_down x.out.now x.i) (four_same c.low_byte.ensures c.low_byte-2.ensures c.low_byte-3.ensures c.low_byte-4.ensures)
