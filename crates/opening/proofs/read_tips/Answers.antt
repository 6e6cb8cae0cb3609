-- `opening::read_tips` meets its contract: what the tips from place k on come to, all of them come to. Assumes nothing.
use Rattle.std.specs.Prelude.{Err, Ok, Result}
use Rattle.walk.specs.declared.Refusal.{Refusal}
use mathlib.Core.Path.{◌≡◌, sym, ◌∙◌, ap, subst}
use mathlib.Core.List.{List}
use Prim.Native.Nat.{ℕ, ◌≤◌, ◌-◌, ◌/◌}
use lib.ListN.{length}
use Rattle.hash.specs.Bytes.{Id, width_of}
use Rattle.walk.specs.Opening.{list_ids}
use Rattle.opening.specs.Checks.{TestsTips, no_tip}
use Rattle.opening.proofs.Ids.{ids_from, ids-start, ids_next, ids-end}
use Rattle.opening.proofs.Tips.{one-refused, one-fine}
use Rattle.std.proofs.lemmas.Result.{err_from_is_err_and}
use borrow.Author.Rules.{rules}
use Rattle.opening.proofs.read_tips.Goals as goal

pub loop-k-init : goal.loop-k-init
loop-k-init c = let x = c.args in
    let n = c.ids_in-n.ensures in
    (search rules, n, λ r t. subst (λ (l : List Id). TestsTips (width_of x.kind) x.store.now (list_ids (width_of x.kind) x.excluded.now) l r) (ap (λ (m : ℕ). ids_from (width_of x.kind) m 0 x.tips.now) n ∙ ids-start (width_of x.kind) x.tips.now) t)

pub returns-in_err-check_tip : goal.returns-in_err-check_tip
returns-in_err-check_tip c = let x = c.args in
    let one = rw c.nth.ensures at c.check_tip.ensures in
    let p = err_from_is_err_and c.from_residual.result c.from_residual.ensures.1 in
    rw (p.1, p.2) (c.loop-k.invariant.2 _ (subst (λ (ids : List Id). TestsTips (width_of x.kind) x.store.now (list_ids (width_of x.kind) x.excluded.now) ids (Err c.in_err-check_tip.field-0.0)) (sym (ids_next (width_of x.kind) x.tips.now _ c.loop-k.k c.loop-k-test.true))
    (one-refused _ one c.in_err-check_tip.was)))

pub loop-k-preserved : goal.loop-k-preserved
loop-k-preserved c = let x = c.args in
    let one = rw c.nth.ensures at c.check_tip.ensures in (
      search rules,
      c.loop-k.invariant.1,
      λ r t. c.loop-k.invariant.2 r (subst (λ (ids : List Id). TestsTips (width_of x.kind) x.store.now (list_ids (width_of x.kind) x.excluded.now) ids r) (sym (ids_next (width_of x.kind) x.tips.now _ c.loop-k.k c.loop-k-test.true))
          (one-fine one c.in_ok-check_tip.was t)),
    )

pub returns : goal.returns
returns c = let x = c.args in
    c.loop-k.invariant.2 _ (subst (λ (ids : List Id). TestsTips (width_of x.kind) x.store.now (list_ids (width_of x.kind) x.excluded.now) ids (Ok tt)) (sym (ids-end (width_of x.kind) x.tips.now _ c.loop-k.k (search rules))) no_tip)
