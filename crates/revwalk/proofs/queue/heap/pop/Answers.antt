-- A queue that is refused is not good, or empty, or not by time; else the root is the first of the list.
use mathlib.Core.Path.{sym, subst}
use mathlib.Core.Bool.{Bool}
use native.Mathlib.Omega.{arith}
use borrow.Author.Tests.{not-true, not-false}
use Prim.Native.Nat.{◌-◌}
use Rattle.revwalk.specs.Queue.{Unrooted}
use Rattle.revwalk.proofs.QueueGood.{good-room, good-size, other_none, own-none, own-pops}
use Rattle.revwalk.proofs.QueueHeap.{pops}
use borrow.Author.Rules.{rules}
use Rattle.revwalk.proofs.queue.heap.pop.Goals as goal

pub returns-then-not-q : goal.returns-then-not-q
returns-then-not-q c = other_none (not-true _ c.if-not-q.true)

pub returns-then-line-cap : goal.returns-then-line-cap
returns-then-line-cap c = own-none (λ o g. absurd (omega (arith, good-room g))) (not-false _ c.if-not-q.false)

pub returns-then-cap-n : goal.returns-then-cap-n
returns-then-cap-n c = own-none (λ o g. absurd (omega (arith, good-size g))) (not-false _ c.if-not-q.false)

pub returns-then-n-eq0 : goal.returns-then-n-eq0
returns-then-n-eq0 c = own-none (λ o g. c.if-n-eq0.true) (not-false _ c.if-not-q.false)

pub returns-then-q : goal.returns-then-q
returns-then-q c =
    let e = (not-false _ c.if-not-q.false) in
    let x = c.args in
    own-pops e (pops e c.if-cap-n.false c.if-n-eq0.false c.take_root.auto.line (subst (λ (b : Bool). Unrooted b x.times.now x.q.cap (x.q.count - 1) x.line.now c.take_root.new.line) (sym c.if-q.true) c.take_root.ensures))

pub returns-else-q : goal.returns-else-q
returns-else-q c =
    let e = (not-false _ c.if-not-q.false) in
    let x = c.args in
    own-pops e (pops e c.if-cap-n.false c.if-n-eq0.false c.take_root-else-q.auto.line (subst (λ (b : Bool). Unrooted b x.times.now x.q.cap (x.q.count - 1) x.line.now c.take_root-else-q.new.line) (sym c.if-q.false) c.take_root-else-q.ensures))
