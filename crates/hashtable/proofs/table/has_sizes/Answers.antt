-- `table::has_sizes` meets its contract: the tests are the record's fields, the last by division. Assumes nothing.
use mathlib.Core.Path.{sym, ◌∙◌}
use native.Mathlib.Omega.{arith}
use Prim.Native.Nat.{◌/◌, ◌<◌}
use lib.ListN.{length}
use Rattle.hash.specs.Bytes.{width_of}
use Rattle.hash.proofs.Decides.{decided-no, decided_le}
use Rattle.hash.proofs.Widths.{width_least, ids-fit, fit-ids}
use borrow.Author.Rules.{rules}
use Rattle.hashtable.proofs.table.has_sizes.Goals as goal

pub returns-then-cap-eq0 : goal.returns-then-cap-eq0
returns-then-cap-eq0 c = decided-no (λ s. omega (arith, s.some-slot))

pub returns-then-id-width : goal.returns-then-id-width
returns-then-id-width c = decided-no (λ s. c.if-id-width.true (s.width ∙ sym c.width.ensures.0))

pub returns-then-marks-cap : goal.returns-then-marks-cap
returns-then-marks-cap c = decided-no (λ s. omega (arith, s.fits.for_marks))

pub returns : goal.returns
returns c =
    let x = c.args in
    let p : 0 < width_of x.kind = omega (arith, width_least x.kind) in
    rw c.ids_in.ensures
    (decided_le x.cap (length x.names.now / width_of x.kind)
    (λ e. record {
      some-slot = omega arith;
      width = c.if-id-width.false ∙ c.width.ensures.0;
      fits = record { for_marks = omega arith; for_names = ids-fit (width_of x.kind) (length x.names.now) x.cap p e };
    })
    (λ s. fit-ids (width_of x.kind) (length x.names.now) x.cap p s.fits.for_names))
