-- `graphplan::entry::seconds_fit` meets its contract: the two tests are the definition's own. Assumes nothing.
use mathlib.Core.Path.{sym, ◌∙◌, ap}
use mathlib.Core.Bool.{Bool, false, cond}
use Prim.Native.Nat.{ℕ}
use lib.Dec.{ltb}
use lib.IntN.{nat_abs}
use Rattle.graphplan.specs.StoreRows.{fit_seconds, most_seconds}
use Rattle.graphplan.proofs.entry.seconds_fit.Goals as goal

pub returns-then-is_negative : goal.returns-then-is_negative
unfolding fit_seconds
returns-then-is_negative c = let s = c.args.s.0 in sym (ap (λ (t : Bool). cond t false (ltb (nat_abs s) most_seconds)) (sym c.is_negative.ensures ∙ c.if-is_negative.true))

pub returns : goal.returns
unfolding fit_seconds
returns c = let s = c.args.s.0 in ap (λ (x : ℕ). ltb x most_seconds) c.magnitude.ensures ∙ sym (ap (λ (t : Bool). cond t false (ltb (nat_abs s) most_seconds)) (sym c.is_negative.ensures ∙ c.if-is_negative.false))
