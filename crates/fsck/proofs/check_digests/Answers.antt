-- `fsck::check_digests` meets its contract: the names come before the checksum. Assumes nothing.
use mathlib.Core.Path.{sym, ◌∙◌}
use Rattle.odb.specs.Store.{entries}
use Rattle.fsck.specs.Names.{first_false, names_report}
use Rattle.fsck.proofs.Steps.{found_at, found_none}
use Rattle.fsck.proofs.check_digests.Goals as goal

pub returns-in-Some : goal.returns-in-Some
unfolding names_report
returns-in-Some c = let x = c.args in
    rw (found_at (first_false x.kind x.store.now 0 (entries x.store.now)) c.in-Some.k (sym c.in-Some.is ∙ c.first_false.ensures))

pub returns-in-None : goal.returns-in-None
unfolding names_report
returns-in-None c = let x = c.args in
    rw (found_none (first_false x.kind x.store.now 0 (entries x.store.now)) (sym c.in-None.is ∙ c.first_false.ensures)) c.check_sum.ensures
