-- `lookup` meets its contract: in a right file every id of that first byte stands between the two entries of the
-- fan-out, where none is missed. Assumes nothing.
use mathlib.Core.Path.{sym, ◌∙◌}
use native.Mathlib.Omega.{arith}
use Rattle.commitgraph.proofs.RowsFind.{looks_width, looks-over, looks-hit, looks-miss, search_of}
use borrow.Author.Rules.{rules}
use Rattle.commitgraph.proofs.rows.lookup.Goals as goal

pub returns-then-id-w : goal.returns-then-id-w
returns-then-id-w c = let x = c.args in
    rw (sym c.width-w.ensures.0) (looks_width c.width-w.result x.graph.now x.l x.id.now (omega arith) c.if-id-w.true)

pub returns-then-l-hi : goal.returns-then-l-hi
returns-then-l-hi c =
    let w = c.width-w in
    let x = c.args in
    let b = c.first_byte-b.ensures in
    rw (sym w.ensures.0)
    (looks-over w.result x.graph.now x.l x.id.now c.first_byte-b.result (omega (arith, w.ensures.1)) b.0 b.1 (omega (arith, c.ids_below-hi.ensures)))

pub returns-in-Some : goal.returns-in-Some
returns-in-Some c =
    let w = c.width-w in
    let x = c.args in
    let g = x.graph.now in
    let id = x.id.now in
    let b = c.first_byte-b.ensures in
    rw (sym w.ensures.0)
    (looks-hit w.result g x.l id c.first_byte-b.result (omega (arith, w.ensures.1)) b.0 b.1 c.if-id-w.false c.in-Some.p
    (omega (arith, c.ids_below-hi.ensures))
    (search_of w.result g x.l c.first_byte-b.result id c.find_between.ensures c.ids_below-lo.ensures c.ids_below-hi.ensures c.in-Some.is))

pub returns-in-None : goal.returns-in-None
returns-in-None c =
    let w = c.width-w in
    let x = c.args in
    let g = x.graph.now in
    let id = x.id.now in
    let b = c.first_byte-b.ensures in
    rw (sym w.ensures.0)
    (looks-miss w.result g x.l id c.first_byte-b.result (omega (arith, w.ensures.1)) b.0 b.1 c.if-id-w.false
    (search_of w.result g x.l c.first_byte-b.result id c.find_between.ensures c.ids_below-lo.ensures c.ids_below-hi.ensures c.in-None.is))
