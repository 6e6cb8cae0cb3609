-- `calendar::bad_terms` meets its contract: too long a list is bad, another is so where its terms do not rise. Assumes nothing.
use mathlib.Core.Path.{◌≡◌, refl, sym, ◌∙◌, ap}
use mathlib.Core.Bool.{not}
use Prim.Native.Nat.{◌≤◌, ◌<◌}
use native.Mathlib.Omega.{arith}
use lib.ListN.{length}
use borrow.Author.Tests.{le-leb, lt-leb}
use borrow.Author.Rules.{rules}
use Rattle.calendar.specs.Terms.{good_terms}
use Rattle.calendar.proofs.bad_terms.Goals as goal

pub returns-then-terms-gt48 : goal.returns-then-terms-gt48
unfolding good_terms
returns-then-terms-gt48 c = rw (lt-leb (length c.args.terms.now) 48 c.if-terms-gt48.true) refl

pub returns : goal.returns
unfolding good_terms
returns c = let h : length c.args.terms.now ≤ 48 = omega (arith, c.if-terms-gt48.false) in
    rw (le-leb (length c.args.terms.now) 48 h) (ap not c.are_rising.ensures)
