-- `graphwrite::parts::write_fan` meets its contract: each byte's count is where the ids pass it. Assumes nothing.
use mathlib.Core.Path.{◌≡◌, refl, ◌∙◌}
use Prim.Native.Nat.{◌+◌, ◌*◌}
use native.Mathlib.Omega.{arith}
use lib.ListN.{length}
use Rattle.hash.specs.Bytes.{width_of}
use Rattle.graphfile.specs.GraphFile.{words, fan_from}
use Rattle.graphfile.proofs.Pieces.{length_words, length_fan, wide-words}
use Rattle.graphplan.specs.StoreRows.{rows_of}
use Rattle.graphbytes.proofs.Fill.{fill_none, fill_next, fill_all}
use Rattle.graphplan.proofs.Fans.{fan-entry}
use Rattle.graphwrite.proofs.parts.write_fan.Goals as goal

pub loop-i-init : goal.loop-i-init
loop-i-init c = let x = c.args in (omega arith, omega arith, refl, λ j d. absurd (omega arith), fill_none x.out.now x.from (words (fan_from (rows_of (width_of x.kind) x.store.now) 0 256)) (omega (arith, c.requires.1)))

pub loop-i-preserved : goal.loop-i-preserved
loop-i-preserved c = let x = c.args in
    let w = width_of x.kind in
    let t = c.loop-i-test.true in
    let xs = fan_from (rows_of w x.store.now) 0 256 in
    let g : length (words xs) ≡ 256 = length_words xs ∙ length_fan (rows_of w x.store.now) 0 256 in
    let v = fan-entry w x.store.now x.n c.requires.0 c.loop-i.k c.loop-i.i c.past_byte-k.result t c.loop-i.invariant.1 c.loop-i.invariant.3 c.past_byte-k.ensures in (
      omega (arith, t),
      c.past_byte-k.ensures.to c.loop-i.invariant.1,
      c.put_word.auto.out ∙ c.loop-i.invariant.2,
      v.1,
      fill_next 4 (x.from + 4 * c.loop-i.i) _ (wide-words xs) (omega (arith, g, t)) (omega (arith, g, c.requires.1)) c.loop-i.invariant.4 c.put_word.ensures refl v.0,
    )

pub shape_of-out : goal.shape_of-out
shape_of-out c = c.loop-i.invariant.2

pub returns : goal.returns
returns c = let x = c.args in
    let w = width_of x.kind in
    let xs = fan_from (rows_of w x.store.now) 0 256 in
    fill_all c.loop-i.invariant.4 (omega (arith, length_words xs, length_fan (rows_of w x.store.now) 0 256, c.loop-i-test.false))
