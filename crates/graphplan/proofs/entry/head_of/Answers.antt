-- `graphplan::entry::head_of` meets its contract: the body of the entry is read. Assumes nothing.
use mathlib.Core.Path.{◌∙◌, ap}
use mathlib.Core.List.{List}
use Prim.Native.Nat.{ℕ}
use Rattle.hash.specs.Bytes.{width_of}
use Rattle.object.specs.Header.{header}
use Rattle.object.specs.Read.{reading_of}
use Rattle.graphplan.specs.Entries.{head_given, head_read}
use Rattle.graphplan.proofs.entry.head_of.Goals as goal

pub returns : goal.returns
unfolding head_read
returns c = let x = c.args in c.head_given.ensures ∙ ap head_given (c.readable.ensures ∙ ap (λ (b : List ℕ). reading_of (header (width_of x.kind) b)) c.entry_bytes.ensures)
