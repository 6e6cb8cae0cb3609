-- `list` meets its contract: `out` is too short, the input is too large, or the walk is opened. Assumes nothing.
use mathlib.Core.Path.{refl}
use Rattle.swatch.proofs.Whole.{lists-short, lists-large, lists-store}
use borrow.Author.Rules.{rules}
use Rattle.swatch.proofs.list.Goals as goal

pub returns-then-out-lt-MOST : goal.returns-then-out-lt-MOST
returns-then-out-lt-MOST c = lists-short (search rules)

pub returns-then-input-gt-MOST : goal.returns-then-input-gt-MOST
returns-then-input-gt-MOST c = lists-large c.if-out-lt-MOST.false c.if-input-gt-MOST.true c.refusal.ensures

pub returns : goal.returns
returns c = lists-store c.if-out-lt-MOST.false c.if-input-gt-MOST.false (c.store_in.ensures refl) c.tips_in.ensures c.list_store.ensures
