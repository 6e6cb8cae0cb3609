-- One slot leaves nothing; else the last slot has gone in at the leaf to which the hole went down.
use mathlib.Core.Path.{◌∙◌}
use native.Mathlib.Omega.{arith}
use Rattle.revwalk.proofs.QueueHeapPop.{unrooted-one, unrooted}
use borrow.Author.Rules.{rules}
use Rattle.revwalk.proofs.queue.heap.take_root.Goals as goal

pub returns-then-m-eq0 : goal.returns-then-m-eq0
returns-then-m-eq0 c = unrooted-one c.args.newest c.args.times.now c.args.cap c.args.line.now _ c.if-m-eq0.true

pub returns : goal.returns
returns c = let d = c.if-m-eq0.false in unrooted c.args.newest c.args.times.now c.args.cap c.args.line.now c.args.m c.sink-hole.result c.sink-hole.new.line c.sift_up.new.line (omega arith) c.requires (c.sift_up.auto.line ∙ c.sink-hole.auto.line) c.sink-hole.ensures c.sift_up.ensures
