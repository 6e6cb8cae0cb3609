-- `fsck::is_named` meets its contract: the entry is read by its number. Assumes nothing.
use mathlib.Core.Path.{◌∙◌}
use Rattle.hash.specs.Bytes.{eq_id}
use Rattle.commitid.specs.Name.{commit_id}
use Rattle.fsck.proofs.Entries.{name-told}
use Rattle.fsck.proofs.is_named.Goals as goal

pub returns : goal.returns
returns c =
    c.is_commit_id.ensures
    ∙ (λ i. eq_id (commit_id c.args.kind (c.entry_bytes-body.ensures i)) (c.entry_id.ensures i))
    ∙ name-told c.args.kind c.args.store.now c.args.k c.requires.0 c.requires.1
