-- `graphplan::entry::first_byte` meets its contract: the byte is the id's first. Assumes nothing.
use mathlib.Core.Path.{◌∙◌, ap}
use mathlib.Core.List.{List}
use Prim.Native.Nat.{ℕ}
use lib.ListN.{get_or}
use Rattle.graphplan.proofs.entry.first_byte.Goals as goal

pub returns : goal.returns
returns c = c.byte_at.ensures ∙ ap (λ (y : List ℕ). get_or y 0 0) c.entry_id.ensures
