-- `wire::put_id` meets its contract: bytes of the kind's width are the id in their value, and of any others the value is made. Assumes nothing.
use mathlib.Core.Path.{sym, ◌∙◌, ap}
use Rattle.hash.specs.Bytes.{width_of, set_down}
use Rattle.hash.proofs.Widths.{width-most}
use Rattle.object.specs.Ids.{id_in}
use Rattle.object.proofs.IdBytes.{id_in_lem}
use borrow.Author.Rules.{rules}
use Rattle.wire.proofs.put_id.Goals as goal

pub returns-then-x-width : goal.returns-then-x-width
returns-then-x-width c = let x = c.args in
    let e = c.if-x-width.true ∙ c.width.ensures.0 in
    c.set_down.ensures ∙ ap (set_down x.id.now 0) (sym (id_in_lem (width_of x.kind) x.x.now e (width-most x.kind)))

pub returns : goal.returns
returns c = let x = c.args in
    c.set_down-2.ensures ∙ ap (set_down x.id.now 0) (c.id_slice.ensures ∙ ap (id_in (width_of x.kind)) c.id_of-whole.ensures)
