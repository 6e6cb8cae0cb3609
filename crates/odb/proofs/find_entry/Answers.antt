-- `odb::find_entry` meets its contract: an entry that has the id is the one, and else the search goes over all that stand. Assumes nothing.
use mathlib.Core.Path.{sym, ◌∙◌}
use Rattle.hash.proofs.Ids.{eq_id_eq}
use Rattle.hash.proofs.Tests.{and_both}
use borrow.Author.Tests.{eqb-true}
use Rattle.odb.proofs.Lookup.{stood_within, near_finds, search_finds}
use borrow.Author.Rules.{rules}
use Rattle.odb.proofs.find_entry.Goals as goal

pub id_of_entry-requires : goal.id_of_entry-requires
id_of_entry-requires c = rw c.width-w.ensures.0 (c.requires.0, rw c.requires.0 (stood_within _ _ _ (rw c.requires.1 at c.if-near-n.true)))

pub returns-then-same_id : goal.returns-then-same_id
returns-then-same_id c = let same = and_both (sym c.same_id.ensures ∙ c.if-same_id.true) in near_finds _ _ _ _ (eqb-true _ _ same.0) (rw c.requires.1 at c.if-near-n.true) (sym (rw c.width-w.ensures.0 at c.id_of_entry.ensures) ∙ eq_id_eq _ _ same.1)

pub returns : goal.returns
returns c = search_finds _ _ _ _ _ c.requires.0 c.requires.1 c.requires.2 (rw c.width-w.ensures.0 at c.find.ensures)
