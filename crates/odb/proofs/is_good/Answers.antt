-- `odb::is_good` meets its contract: each test that fails breaks one part of the layout, and where the entries stand in the file and their ids
-- rise, the ends decide. Assumes nothing.
use mathlib.Core.Path.{◌≡◌, sym, ◌∙◌}
use mathlib.Core.Bool.{true}
use borrow.Author.Tests.{not-true, not-false}
use Rattle.hash.specs.Bytes.{width_of}
use Rattle.hash.proofs.Tests.{clash}
use Rattle.idlist.specs.IdList.{rising}
use Rattle.odb.specs.Store.{entries, entry_ids, standing}
use Rattle.odb.proofs.Store.{refused}
use Rattle.odb.proofs.Check.{inside, ids-told, ends-decide}
use borrow.Author.Rules.{rules}
use Rattle.odb.proofs.is_good.Goals as goal

pub returns-then-not-stands : goal.returns-then-not-stands
returns-then-not-stands c = refused _ _ (λ g. clash (rw c.width-w.ensures.0 at c.stands.ensures ∙ g.stands) c.if-not-stands.true)

pub returns-then-not-is_rising : goal.returns-then-not-is_rising
returns-then-not-is_rising c =
    let stand : let x = c.args in standing (width_of x.kind) x.store.now ≡ true =
    sym (rw c.width-w.ensures.0 at c.stands.ensures) ∙ c.if-not-stands.false in
    let rise : let x = c.args in c.is_rising.result ≡ rising (entry_ids (width_of x.kind) x.store.now) (entries x.store.now) =
    let x = c.args in
    ids-told (width_of x.kind) x.store.now c.entries_start-base.result c.entries_said-n.result stand c.entries_start-base.ensures.0 c.entries_said-n.ensures.0 (rw c.width-w.ensures.0 at c.is_rising.ensures) in
    refused _ _ (λ g. clash (rise ∙ g.rises) c.if-not-is_rising.true)

pub ends_rise-requires : goal.ends_rise-requires
ends_rise-requires c =
    let stand : let x = c.args in standing (width_of x.kind) x.store.now ≡ true =
    sym (rw c.width-w.ensures.0 at c.stands.ensures) ∙ c.if-not-stands.false in
    let x = c.args in
    inside c.width-w.result x.store.now c.entries_start-base.result c.entries_said-n.result (rw (sym c.width-w.ensures.0) at stand) c.entries_start-base.ensures.0 c.entries_said-n.ensures.0

pub returns : goal.returns
returns c =
    let stand : let x = c.args in standing (width_of x.kind) x.store.now ≡ true =
    sym (rw c.width-w.ensures.0 at c.stands.ensures) ∙ c.if-not-stands.false in
    let rise : let x = c.args in c.is_rising.result ≡ rising (entry_ids (width_of x.kind) x.store.now) (entries x.store.now) = let w = c in
    let x = w.args in
    ids-told (width_of x.kind) x.store.now c.entries_start-base.result c.entries_said-n.result stand c.entries_start-base.ensures.0 c.entries_said-n.ensures.0 (rw w.width-w.ensures.0 at c.is_rising.ensures) in
    let t = c in
    let w = t in
    let x = w.args in
    rw w.width-w.ensures.0 at c.ends_rise.ensures
    ∙ ends-decide (width_of x.kind) x.store.now t.entries_start-base.result t.entries_said-n.result stand t.entries_start-base.ensures.0 t.entries_said-n.ensures.0 (sym rise ∙ c.if-not-is_rising.false)
