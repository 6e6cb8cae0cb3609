-- `reading::is_among` meets its contract: the id is none of those passed, so whether it is among all is whether it is among the rest. Assumes nothing.
use borrow.Author.Rules.{rules}
use mathlib.Core.Path.{◌≡◌, sym, ◌∙◌, ap}
use Prim.Native.Nat.{◌-◌, ◌/◌, ◌≤◌}
use lib.ListN.{length}
use Rattle.hash.specs.Bytes.{eq_id, among, width_of}
use Rattle.walk.specs.Opening.{list_ids}
use Rattle.reading.proofs.IdLists.{from_id, among-start, among-here, among_later, among_none}
use Rattle.reading.proofs.ids.is_among.Goals as goal

pub loop-k-init : goal.loop-k-init
loop-k-init c = let x = c.args in
    (c.ids_in-n.ensures, search rules, rw c.ids_in-n.ensures (among-start _ x.id.now x.list.now))

pub returns-then-same : goal.returns-then-same
returns-then-same c =
    let x = c.args in
    let e = sym (c.same.ensures ∙ ap (eq_id x.id.now) c.nth.ensures) ∙ c.if-same.true in
    sym (c.loop-k.invariant.2 ∙ among-here _ x.id.now x.list.now _ c.loop-k.k (search rules) e)

pub loop-k-preserved : goal.loop-k-preserved
loop-k-preserved c =
    let x = c.args in
    let e = sym (c.same.ensures ∙ ap (eq_id x.id.now) c.nth.ensures) ∙ c.if-same.false in
    (search rules, search rules, c.loop-k.invariant.2 ∙ among_later _ x.id.now x.list.now _ c.loop-k.k (search rules) e)

pub returns : goal.returns
returns c = let x = c.args in sym (c.loop-k.invariant.2 ∙ among_none _ x.id.now x.list.now _ c.loop-k.k (search rules))
