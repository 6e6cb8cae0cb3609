-- `chunks::has_header` meets its contract: each test that fails makes the whole false. Assumes nothing.
use mathlib.Core.Path.{sym, ◌∙◌}
use Prim.Native.Nat.{◌≤◌, ◌<◌}
use native.Mathlib.Omega.{arith}
use lib.ListN.{length}
use borrow.Author.Tests.{le-leb, lt-leb, not-true, not-false}
use Rattle.hash.specs.Bytes.{at}
use Rattle.commitgraph.specs.Graph.{graph_head}
use borrow.Author.Rules.{rules}
use Rattle.commitgraph.proofs.chunks.has_header.Goals as goal

pub returns-then-graph-lt8 : goal.returns-then-graph-lt8
unfolding graph_head at
returns-then-graph-lt8 c = let h : length c.args.graph.now < 8 = omega arith in
    rw (lt-leb _ _ h)

pub returns-then-not-same : goal.returns-then-not-same
unfolding graph_head at
returns-then-not-same c = let h : 8 ≤ length c.args.graph.now = omega arith in
    let p = rw (c.part.ensures, c.hash_version.ensures) at (sym c.same.ensures ∙ c.if-not-same.true) in
    rw (le-leb _ _ h, p)

pub returns : goal.returns
unfolding graph_head at
returns c = let h : 8 ≤ length c.args.graph.now = omega arith in
    let p = rw (c.part.ensures, c.hash_version.ensures) at (sym c.same.ensures ∙ c.if-not-same.false) in
    let q = c.byte_at.ensures in
    rw (le-leb _ _ h, p, q)
