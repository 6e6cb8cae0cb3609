-- By time the first place is the root's, otherwise the one at head.
use Rattle.revwalk.proofs.QueueGood.{place-timed}
use Rattle.revwalk.proofs.QueueRing.{first-low, first-high}
use mathlib.Core.Path.{sym, ap, ◌∙◌}
use Prim.Native.Nat.{ℕ}
use borrow.Author.Rules.{rules}
use Rattle.revwalk.proofs.queue.first.Goals as goal

pub returns-then-q : goal.returns-then-q
returns-then-q c = let x = c.args in c.slot_at.ensures ∙ sym (ap (λ (f : ℕ → ℕ). f 0) (place-timed x.q x.line.now c.if-q.true))

pub returns-then-q-2 : goal.returns-then-q-2
returns-then-q-2 c = let x = c.args in c.slot_at-then-q-2.ensures ∙ first-low x.q x.line.now c.if-q.false c.if-q-2.true

pub returns : goal.returns
returns c = let x = c.args in c.slot_at-2.ensures ∙ first-high x.q x.line.now c.if-q.false c.if-q-2.false
