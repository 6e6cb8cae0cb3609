-- `ahead::start_of` meets its contract: the id's first word over the slots, where there is one. Assumes nothing.
use mathlib.Core.Path.{sym, ap, ◌∙◌}
use mathlib.Core.Bool.{Bool, cond}
use Prim.Native.Nat.{ℕ, ◌%◌}
use borrow.Author.Tests.{eq-eqb, ne_eqb}
use Rattle.hash.specs.Bytes.{u32_at}
use Rattle.hashtable.specs.Table.{home_of}
use Rattle.tested.proofs.ahead.start_of.Goals as goal

pub returns-then-cap-eq0 : goal.returns-then-cap-eq0
returns-then-cap-eq0 c = let x = c.args in sym (ap (λ (t : Bool). cond t 0 (home_of x.id.now x.cap)) (eq-eqb x.cap 0 c.if-cap-eq0.true))

pub returns : goal.returns
unfolding home_of
returns c = let x = c.args in ap (λ (n : ℕ). n % x.cap) (c.wide.ensures ∙ c.be32.ensures) ∙ sym (ap (λ (t : Bool). cond t 0 (u32_at x.id.now 0 % x.cap)) (ne_eqb x.cap 0 c.if-cap-eq0.false))
