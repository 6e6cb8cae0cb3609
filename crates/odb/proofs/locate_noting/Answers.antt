-- `odb::locate_noting` meets its contract. An id of another width stands nowhere; else the answer is the body of the entry that was found, which
-- stands in the store. Assumes nothing.
use mathlib.Core.Path.{refl, sym, ◌∙◌}
use Rattle.odb.proofs.Lookup.{odd-width, stood_within, located_at, located_none}
use borrow.Author.Rules.{rules}
use Rattle.odb.proofs.locate_noting.Goals as goal

pub returns-then-id-w : goal.returns-then-id-w
returns-then-id-w c = located_none (odd-width _ _ _ (λ e. c.if-id-w.true (e ∙ sym c.width-w.ensures.0))) refl

pub find_entry-requires : goal.find_entry-requires
find_entry-requires c = (c.entries_start-base.ensures.0, c.count-n.ensures, c.if-id-w.false ∙ c.width-w.ensures.0)

pub entry_body-requires : goal.entry_body-requires
entry_body-requires c = rw (c.width-w.ensures.0, c.entries_start-base.ensures.0) (refl, stood_within _ _ _ (c.find_entry.ensures.hit _ c.in-Some.is).0.stands)

pub returns-in-Some : goal.returns-in-Some
returns-in-Some c = rw (c.entry_body.ensures, c.width-w.ensures.0) (located_at _ c.find_entry.ensures c.in-Some.is)

pub returns-in-None : goal.returns-in-None
returns-in-None c = located_none c.find_entry.ensures c.in-None.is
