-- `graphplan::read_heads` meets its contract: while the entries before k are readable, what is found of them is held. Assumes nothing.
use mathlib.Core.Path.{sym, ◌∙◌}
use native.Mathlib.Omega.{arith}
use Rattle.hash.specs.Bytes.{width_of}
use Rattle.odb.specs.Lookup.{entry_body}
use Rattle.graphplan.proofs.RowLaws.{edges_few}
use Rattle.graphplan.proofs.Planning.{reading_none, reading_next, survey_unread, survey_edges, survey_late, edges-small}
use Rattle.graphplan.proofs.read_heads.Goals as goal

pub loop-k-init : goal.loop-k-init
loop-k-init c = let x = c.args in (omega arith, reading_none (width_of x.kind) x.store.now)

pub overflow_add-e : goal.overflow_add-e
overflow_add-e c = let x = c.args in
    let h = sym c.head_of.ensures ∙ c.in-Some.is in
    omega (arith, c.loop-k.invariant.1.edges, edges_few (width_of x.kind) x.store.now c.loop-k.k, c.requires, c.loop-k-test.true, c.edges_of-e.ensures, edges-small (width_of x.kind) (entry_body (width_of x.kind) x.store.now c.loop-k.k) _ h)

pub returns-in_default : goal.returns-in_default
returns-in_default c = let x = c.args in
    survey_unread (width_of x.kind) x.store.now x.n c.loop-k.k c.loop-k-test.true (sym c.head_of.ensures ∙ c.in_default.is)

pub loop-k-preserved : goal.loop-k-preserved
loop-k-preserved c = (omega (arith, c.loop-k-test.true), reading_next _ c.loop-k.invariant.1 (sym c.head_of.ensures ∙ c.in-Some.is) c.edges_of-e.ensures c.both-good.ensures)

pub returns-then-good : goal.returns-then-good
returns-then-good c = survey_edges c.args.n c.loop-k.invariant.1 (omega (arith, c.loop-k-test.false, c.loop-k.invariant.0)) c.if-good.true

pub returns-else-good : goal.returns-else-good
returns-else-good c = survey_late c.args.n c.loop-k.invariant.1 (omega (arith, c.loop-k-test.false, c.loop-k.invariant.0)) c.if-good.false
