-- `fsck::check_names` meets its contract: the files are tested as an opening without lists tests them, then the digests decide. Assumes nothing.
use mathlib.Core.Path.{refl, sym, ◌∙◌}
use Rattle.opening.proofs.Input.{passes}
use Rattle.opening.proofs.Tips.{refused_as, fine_as}
use Rattle.fsck.specs.Names.{files_input, files_refusal, any_settings}
use Rattle.fsck.proofs.Steps.{after-refused, after-fine}
use Rattle.fsck.proofs.check_names.Goals as goal

pub check_digests-requires : goal.check_digests-requires
check_digests-requires c = let x = c.args in
    (passes (files_input x.kind x.store.now x.graph.now) (fine_as (files_refusal x.kind x.store.now x.graph.now) (sym c.in-Ok.is ∙ c.check_input.ensures (any_settings x.kind) refl))).store-good

pub returns-in-Err : goal.returns-in-Err
returns-in-Err c = let x = c.args in
    sym (after-refused x.kind x.store.now x.graph.now c.in-Err.r (refused_as (files_refusal x.kind x.store.now x.graph.now) (sym c.in-Err.is ∙ c.check_input.ensures (any_settings x.kind) refl)))

pub returns-in-Ok : goal.returns-in-Ok
returns-in-Ok c = let x = c.args in
    c.check_digests.ensures
    ∙ sym (after-fine x.kind x.store.now x.graph.now (fine_as (files_refusal x.kind x.store.now x.graph.now) (sym c.in-Ok.is ∙ c.check_input.ensures (any_settings x.kind) refl)))
