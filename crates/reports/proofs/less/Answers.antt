-- `less` meets its contract: both numbers and their difference fit. Assumes nothing.
use mathlib.Core.Path.{sym, ◌∙◌, ap, subst}
use lib.IntN.{ℤ}
use mir.Syntax.{w64}
use mir.Val.{SFits, to_z, of_z}
use mir.Facts.{to_z-of_z}
use Rattle.reports.proofs.Signed.{from_two, fits_two}
use borrow.Author.Rules.{rules}
use Rattle.reports.proofs.less.Goals as goal

pub overflow_sub-result : goal.overflow_sub-result
overflow_sub-result c = let x = c.args in subst (SFits w64) (sym (from_two x.a x.b c.requires.0 c.requires.1)) (fits_two x.a x.b c.requires.0 c.requires.1)

pub returns : goal.returns
returns c = let x = c.args in ap (λ (z : ℤ). to_z w64 (of_z w64 z)) (from_two x.a x.b c.requires.0 c.requires.1) ∙ to_z-of_z (fits_two x.a x.b c.requires.0 c.requires.1)
