-- `opening::sizes_fit` meets its contract: the first size that is passed makes the whole false. Assumes nothing.
use mathlib.Core.Path.{sym, ◌∙◌}
use Prim.Native.Nat.{◌≤◌, ◌<◌}
use native.Mathlib.Omega.{arith}
use lib.ListN.{length}
use borrow.Author.Tests.{le-leb, lt-leb, not-true, not-false}
use Rattle.walk.specs.Opening.{sizes_ok}
use borrow.Author.Rules.{rules}
use Rattle.opening.proofs.sizes_fit.Reads as reads
use Rattle.opening.proofs.list_fits.Reads as list-fits-reads
use Rattle.opening.proofs.sizes_fit.Goals as goal

pub returns-then-store-gt-MOST_FILE : goal.returns-then-store-gt-MOST_FILE
unfolding sizes_ok
returns-then-store-gt-MOST_FILE c = λ s e.
    let h0 : 16777216 < length c.args.store.now = omega arith in
    rw (lt-leb _ _ h0)

pub returns-then-graph-gt-MOST_FILE : goal.returns-then-graph-gt-MOST_FILE
unfolding sizes_ok
returns-then-graph-gt-MOST_FILE c = λ s e.
    let h0 : length c.args.store.now ≤ 16777216 = omega arith in
    let h1 : 16777216 < length c.args.graph.now = omega arith in
    rw (le-leb _ _ h0, lt-leb _ _ h1)

pub returns-then-not-list_fits : goal.returns-then-not-list_fits
unfolding sizes_ok
returns-then-not-list_fits c = λ s e.
    let h0 : length c.args.store.now ≤ 16777216 = omega arith in
    let h1 : length c.args.graph.now ≤ 16777216 = omega arith in
    rw (le-leb _ _ h0, le-leb _ _ h1, e, sym c.list_fits.ensures ∙ c.if-not-list_fits.true)

pub returns-then-not-list_fits-2 : goal.returns-then-not-list_fits-2
unfolding sizes_ok
returns-then-not-list_fits-2 c = λ s e.
    let h0 : length c.args.store.now ≤ 16777216 = omega arith in
    let h1 : length c.args.graph.now ≤ 16777216 = omega arith in
    rw (le-leb _ _ h0, le-leb _ _ h1, e, sym c.list_fits.ensures ∙ c.if-not-list_fits.false, sym c.list_fits-2.ensures ∙ c.if-not-list_fits-2.true)

pub returns : goal.returns
unfolding sizes_ok
returns c = λ s e.
    let h0 : length c.args.store.now ≤ 16777216 = omega arith in
    let h1 : length c.args.graph.now ≤ 16777216 = omega arith in
    rw (le-leb _ _ h0, le-leb _ _ h1, e, sym c.list_fits.ensures ∙ c.if-not-list_fits.false, sym c.list_fits-2.ensures ∙ c.if-not-list_fits-2.false) c.list_fits-3.ensures
