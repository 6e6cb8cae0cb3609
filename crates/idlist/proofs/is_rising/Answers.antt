-- `idlist::is_rising` meets its contract. The loop's invariant: the first k ids rise, and prior is the head of the last of them. An id that is
-- not above the one before it breaks the list; where all are passed, they rise. The measure is the number of ids left. Assumes nothing.
use mathlib.Core.Path.{◌≡◌, refl, sym, ◌∙◌}
use Prim.Native.Nat.{◌+◌, ◌-◌, ◌*◌, ◌≤◌}
use native.Mathlib.Omega.{arith}
use native.Mathlib.Numerals.{add-one}
use lib.ListN.{length}
use Rattle.hash.proofs.Widths.{one-before}
use Rattle.idlist.specs.IdList.{rises_at, rising, Stands}
use Rattle.idlist.proofs.Place.{within}
use Rattle.idlist.proofs.Rising.{rising-more}
use Rattle.idlist.proofs.Pass.{torn-rising, rises-at, broken, passed}
use borrow.Author.Rules.{rules}
use Rattle.idlist.proofs.is_rising.Goals as goal

pub returns-then-not-stands : goal.returns-then-not-stands
returns-then-not-stands c = rw (sym c.width-w.ensures.0) (torn-rising _ _ (c.stands.ensures.not c.if-not-stands.true))

pub loop-k-init : goal.loop-k-init
unfolding rising rises_at
loop-k-init c = let x = c.args in
    let z : x.base + x.stride * (1 - 1) ≡ x.base = omega arith in
    (search rules, refl, rw z c.head-prior.ensures)

pub overflow_mul-place : goal.overflow_mul-place
overflow_mul-place c =
    let stand : let x = c.args in
    Stands (record { bytes = x.bytes.now; width = c.width-w.result; base = x.base; stride = x.stride }) x.n = c.stands.ensures.yes c.if-not-stands.false in
    let fits : let x = c.args in
    x.base + x.stride * c.loop-k.k + c.width-w.result ≤ length x.bytes.now = let x = c.args in within x.base x.stride c.width-w.result x.n (length x.bytes.now) c.loop-k.k stand.apart stand.inside c.loop-k-test.true in
    omega (arith, fits)

pub overflow_add-place : goal.overflow_add-place
overflow_add-place c =
    let stand : let x = c.args in
    Stands (record { bytes = x.bytes.now; width = c.width-w.result; base = x.base; stride = x.stride }) x.n = c.stands.ensures.yes c.if-not-stands.false in
    let fits : let x = c.args in
    x.base + x.stride * c.loop-k.k + c.width-w.result ≤ length x.bytes.now = let x = c.args in within x.base x.stride c.width-w.result x.n (length x.bytes.now) c.loop-k.k stand.apart stand.inside c.loop-k-test.true in
    omega (arith, fits)

pub overflow_sub-place : goal.overflow_sub-place
overflow_sub-place c =
    let prior_place : let x = c.args in
    x.base + x.stride * c.loop-k.k - x.stride ≡ x.base + x.stride * (c.loop-k.k - 1) = let x = c.args in omega (arith, one-before x.stride c.loop-k.k (λ e. omega (arith, c.loop-k.invariant.0))) in
    omega (arith, prior_place, one-before c.args.stride c.loop-k.k (λ e. omega (arith, c.loop-k.invariant.0)))

pub is_lower-requires : goal.is_lower-requires
is_lower-requires c =
    let stand : let x = c.args in
    Stands (record { bytes = x.bytes.now; width = c.width-w.result; base = x.base; stride = x.stride }) x.n = c.stands.ensures.yes c.if-not-stands.false in
    let fits : let x = c.args in
    x.base + x.stride * c.loop-k.k + c.width-w.result ≤ length x.bytes.now = let x = c.args in within x.base x.stride c.width-w.result x.n (length x.bytes.now) c.loop-k.k stand.apart stand.inside c.loop-k-test.true in
    let prior_place : let x = c.args in
    x.base + x.stride * c.loop-k.k - x.stride ≡ x.base + x.stride * (c.loop-k.k - 1) = let x = c.args in omega (arith, one-before x.stride c.loop-k.k (λ e. omega (arith, c.loop-k.invariant.0))) in
    (omega (arith, fits), fits, rw prior_place c.loop-k.invariant.2, c.head-head.ensures)

pub returns-then-not-is_lower : goal.returns-then-not-is_lower
returns-then-not-is_lower c =
    let prior_place : let x = c.args in
    x.base + x.stride * c.loop-k.k - x.stride ≡ x.base + x.stride * (c.loop-k.k - 1) = let x = c.args in omega (arith, one-before x.stride c.loop-k.k (λ e. omega (arith, c.loop-k.invariant.0))) in
    let told : let x = c.args in
    c.is_lower.result ≡ rises_at (record { bytes = x.bytes.now; width = c.width-w.result; base = x.base; stride = x.stride }) c.loop-k.k = rw prior_place at c.is_lower.ensures ∙ rises-at _ c.loop-k.k c.loop-k.invariant.0 in
    rw (sym c.width-w.ensures.0) (broken _ c.loop-k.k _ c.loop-k-test.true (sym told ∙ c.if-not-is_lower.true))

pub loop-k-preserved : goal.loop-k-preserved
loop-k-preserved c =
    let prior_place : let x = c.args in
    x.base + x.stride * c.loop-k.k - x.stride ≡ x.base + x.stride * (c.loop-k.k - 1) = let x = c.args in omega (arith, one-before x.stride c.loop-k.k (λ e. omega (arith, c.loop-k.invariant.0))) in
    let told : let x = c.args in
    c.is_lower.result ≡ rises_at (record { bytes = x.bytes.now; width = c.width-w.result; base = x.base; stride = x.stride }) c.loop-k.k = rw prior_place at c.is_lower.ensures ∙ rises-at _ c.loop-k.k c.loop-k.invariant.0 in
    let x = c.args in
    let z : c.loop-k.k + 1 - 1 ≡ c.loop-k.k = omega arith in
    (search rules, rw (add-one c.loop-k.k) (rising-more _ c.loop-k.k c.loop-k.invariant.1 (sym told ∙ c.if-not-is_lower.false)), rw z c.head-head.ensures)

pub returns : goal.returns
returns c = rw (sym c.width-w.ensures.0)
    (passed _ c.loop-k.k _ (c.stands.ensures.yes c.if-not-stands.false) c.loop-k-test.false c.loop-k.invariant.1)
