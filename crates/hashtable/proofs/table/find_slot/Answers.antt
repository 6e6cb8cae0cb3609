-- `table::find_slot` meets its contract. The loop's invariant: the slots passed are not empty and do not hold the id, and the slot
-- remembered is the first that is not live; so the answer at an empty slot, at the id and after the last slot is right. What is
-- left of the slots shrinks with each turn. Assumes nothing.
use borrow.Author.Rules.{rules}
use mathlib.Core.Path.{◌≡◌, sym, ap, ◌∙◌}
use mathlib.Core.Logic.{⊎_elim}
use Prim.Native.Nat.{ℕ, ◌+◌, ◌-◌, ◌*◌, ◌≤◌, ◌<◌}
use native.Mathlib.Omega.{arith}
use lib.ListN.{length}
use borrow.Author.Tests.{not-true, not-false}
use Rattle.hash.specs.Bytes.{width_of}
use Rattle.hash.proofs.Widths.{apart}
use Rattle.hashtable.proofs.TableWords.{stands, stands_so}
use Rattle.hashtable.proofs.MarksBits.{not_0_live}
use Rattle.hashtable.proofs.TableProbe.{Searching, told, untried, passed, remembered, at-found, at-empty, at-spare, at-full, wrong-sizes}
use Rattle.hashtable.proofs.table.find_slot.Goals as goal

pub returns-then-not-has_sizes : goal.returns-then-not-has_sizes
returns-then-not-has_sizes c = wrong-sizes _ _ _ _ _ _ (c.has_sizes.ensures.not c.if-not-has_sizes.true)

pub home-h-requires : goal.home-h-requires
home-h-requires c = (c.has_sizes.ensures.yes c.if-not-has_sizes.false).some-slot

pub loop-i-init : goal.loop-i-init
loop-i-init c = record { low = search rules; sizes = c.has_sizes.ensures.yes c.if-not-has_sizes.false; home = c.home-h.ensures.0; tried = untried _ _ _ _ _ _ }

pub returns-then-m-eq0 : goal.returns-then-m-eq0
returns-then-m-eq0 c =
    let v = c.loop-i.invariant in
    rw c.first_of.ensures (at-empty c.loop-i.i v.tried v.sizes c.around-k.result (told v c.around-k.ensures.0) (search rules) c.if-m-eq0.true)

-- the slot's bytes stand in names
room : (w z k cap n : ℕ) → z ≡ w → k < cap → w * cap ≤ n → z * k + w ≤ n
room w z k cap n e h l = omega (arith, ap (λ (y : ℕ). y * k) e, apart w {j = k} {k = cap} h)

pub overflow_mul-width : goal.overflow_mul-width
overflow_mul-width c =
    let x = c.args in
    let h = room (width_of x.kind) c.width.result c.around-k.result x.cap (length x.names.now) c.width.ensures.0 c.around-k.ensures.1 c.loop-i.invariant.sizes.fits.for_names in
    record { fits = omega (arith, h, c.well_formed.1.0.0) }

pub same_at-requires : goal.same_at-requires
same_at-requires c =
    let x = c.args in
    (room (width_of x.kind) c.width.result c.around-k.result x.cap (length x.names.now) c.width.ensures.0 c.around-k.ensures.1 c.loop-i.invariant.sizes.fits.for_names, c.loop-i.invariant.sizes.width)

pub returns-then-same_at : goal.returns-then-same_at
returns-then-same_at c =
    let v = c.loop-i.invariant in
    at-found c.loop-i.i v.tried v.sizes c.around-k.result c.around-k.ensures.1 (sym c.is_live.ensures ∙ c.if-is_live.true) (stands _ _ _ c.around-k.result _ c.width.ensures.0 (c.same_at.ensures.yes c.if-same_at.true))

pub loop-i-preserved : goal.loop-i-preserved
loop-i-preserved c =
    let v = c.loop-i.invariant in
    let k = told v c.around-k.ensures.0 in
    record {
      low = search rules;
      sizes = v.sizes;
      home = v.home;
      tried = ⊎_elim
          (λ w. rw w.spare-is (passed c.loop-i.i v.tried c.around-k.result k (sym c.is_live.ensures ∙ w.if-is_live.true) (λ e. w.same_at.ensures.not w.if-same_at.false (stands_so _ _ _ c.around-k.result _ w.width.ensures.0 e))))
          (λ w. rw (w.spare-is ∙ w.first_of-spare.ensures) (remembered c.loop-i.i v.tried c.around-k.result k (search rules) (not_0_live _ c.if-m-eq0.false) (sym c.is_live.ensures ∙ w.if-is_live.false)))
          c.if-is_live.branch-raw;
    }

pub returns-then-spare-cap : goal.returns-then-spare-cap
returns-then-spare-cap c = let v = c.loop-i.invariant in at-spare c.loop-i.i v.tried v.sizes c.loop-i-test.false c.if-spare-cap.true

pub returns : goal.returns
returns c = let v = c.loop-i.invariant in at-full c.loop-i.i v.tried v.sizes c.loop-i-test.false c.if-spare-cap.false
