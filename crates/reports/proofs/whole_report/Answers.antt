-- `whole_report` meets its contract: field by field. Assumes nothing.
use Rattle.std.specs.Prelude.{Ok}
use mathlib.Core.Path.{◌∙◌}
use native.Mathlib.Omega.{arith}
use mir.Syntax.{w64}
use mir.Facts.{to_z-of_z}
use borrow.Author.Rules.{rules}
use Rattle.reports.proofs.less.Reads as less-reads
use Rattle.reports.proofs.whole_report.Goals as goal

pub less-requires : goal.less-requires
less-requires c = (omega (arith, c.requires.paired-cone), omega (arith, c.requires.paired-bed))

pub returns : goal.returns
returns c = let f = c.args.f in (λ j. record { outcome = (Ok tt); both = f.both; cone = f.cone; bed = f.bed; neither = f.neither; cone_sum = f.cone_sum; bed_sum = f.bed_sum; difference = (to_z-of_z {w = w64} (record { sfits = c.less.type_inv }) ∙ c.less.ensures) j })
