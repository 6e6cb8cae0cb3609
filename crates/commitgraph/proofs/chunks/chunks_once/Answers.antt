-- `chunks::chunks_once` meets its contract: each test that fails makes the whole false. Assumes nothing.
use mathlib.Core.Path.{◌≡◌, sym, ◌∙◌}
use borrow.Author.Tests.{eq-eqb, ne_eqb}
use Rattle.commitgraph.specs.Graph.{OIDF, OIDL, CDAT, EDGE, chunks_of}
use borrow.Author.Rules.{rules}
use Rattle.commitgraph.proofs.chunks.chunks_once.Goals as goal

pub returns-then-rows_of-ne1 : goal.returns-then-rows_of-ne1
returns-then-rows_of-ne1 c = let x = c.args in
    let a : chunks_of x.graph.now OIDF x.count ≡ 1 → ⊥ = λ e. c.if-rows_of-ne1.true (c.rows_of.ensures ∙ e) in
    rw (ne_eqb _ _ a)

pub returns-then-rows_of-ne1-2 : goal.returns-then-rows_of-ne1-2
returns-then-rows_of-ne1-2 c = let x = c.args in
    let a : chunks_of x.graph.now OIDF x.count ≡ 1 = sym c.rows_of.ensures ∙ c.if-rows_of-ne1.false in
    let b : chunks_of x.graph.now OIDL x.count ≡ 1 → ⊥ = λ e. c.if-rows_of-ne1-2.true (c.rows_of-2.ensures ∙ e) in
    rw (eq-eqb _ _ a, ne_eqb _ _ b)

pub returns-then-rows_of-ne1-3 : goal.returns-then-rows_of-ne1-3
returns-then-rows_of-ne1-3 c = let x = c.args in
    let a : chunks_of x.graph.now OIDF x.count ≡ 1 = sym c.rows_of.ensures ∙ c.if-rows_of-ne1.false in
    let b : chunks_of x.graph.now OIDL x.count ≡ 1 = sym c.rows_of-2.ensures ∙ c.if-rows_of-ne1-2.false in
    let d : chunks_of x.graph.now CDAT x.count ≡ 1 → ⊥ = λ e. c.if-rows_of-ne1-3.true (c.rows_of-3.ensures ∙ e) in
    rw (eq-eqb _ _ a, eq-eqb _ _ b, ne_eqb _ _ d)

pub returns : goal.returns
returns c = let x = c.args in
    let a : chunks_of x.graph.now OIDF x.count ≡ 1 = sym c.rows_of.ensures ∙ c.if-rows_of-ne1.false in
    let b : chunks_of x.graph.now OIDL x.count ≡ 1 = sym c.rows_of-2.ensures ∙ c.if-rows_of-ne1-2.false in
    let d : chunks_of x.graph.now CDAT x.count ≡ 1 = sym c.rows_of-3.ensures ∙ c.if-rows_of-ne1-3.false in
    let f : c.rows_of-4.result ≡ chunks_of x.graph.now EDGE x.count = c.rows_of-4.ensures in
    rw (eq-eqb _ _ a, eq-eqb _ _ b, eq-eqb _ _ d, f)
