-- `odb::id_of_entry` meets its contract: the id of an entry stands at its start. Assumes nothing.
use mathlib.Core.Path.{◌∙◌, ap}
use Prim.Native.Nat.{ℕ, ◌+◌, ◌*◌}
use Rattle.hash.specs.Bytes.{at}
use Rattle.idlist.specs.IdList.{id_of}
use Rattle.odb.specs.Store.{entry_size, entry_ids}
use borrow.Author.Rules.{rules}
use Rattle.odb.proofs.id_of_entry.Goals as goal

pub returns : goal.returns
unfolding id_of entry_ids
returns c = let x = c.args in c.part.ensures ∙ ap (λ (i : ℕ). at x.store.now (i + entry_size x.w * x.k) x.w) c.requires.0
