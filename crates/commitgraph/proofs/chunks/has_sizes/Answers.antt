-- `chunks::has_sizes` meets its contract: each test that fails makes the whole false. Assumes nothing.
use mathlib.Core.Path.{◌≡◌, sym, ap, ◌∙◌}
use Prim.Native.Nat.{ℕ, ◌*◌}
use native.Mathlib.Omega.{arith}
use borrow.Author.Tests.{eq-eqb, ne_eqb}
use Rattle.hash.proofs.Widths.{times-most}
use Rattle.commitgraph.specs.Graph.{OIDF, OIDL, CDAT, EDGE, chunk_size, row_size, graph_count}
use Rattle.commitgraph.proofs.Table.{count_at}
use borrow.Author.Rules.{rules}
use Rattle.commitgraph.proofs.chunks.has_sizes.Goals as goal

pub returns-then-fan-ne1024 : goal.returns-then-fan-ne1024
returns-then-fan-ne1024 c = let x = c.args in
    let a : chunk_size x.graph.now OIDF ≡ 1024 → ⊥ = λ e. c.if-fan-ne1024.true (c.find_chunk-fan.ensures.1 ∙ e) in
    rw (ne_eqb _ _ a)

pub overflow_mul-w : goal.overflow_mul-w
overflow_mul-w c = omega (arith, times-most c.args.w 32 c.last_entry-count.result 4294967296 (omega arith) (omega arith))

pub returns-then-ids-w : goal.returns-then-ids-w
returns-then-ids-w c = let x = c.args in
    let w = x.w in
    let n : c.last_entry-count.result ≡ graph_count x.graph.now = c.last_entry-count.ensures.0 ∙ count_at x.graph.now _ c.find_chunk-fan.ensures.0 in
    let a : chunk_size x.graph.now OIDF ≡ 1024 = sym c.find_chunk-fan.ensures.1 ∙ c.if-fan-ne1024.false in
    let b : chunk_size x.graph.now OIDL ≡ w * graph_count x.graph.now → ⊥ = λ e. c.if-ids-w.true (c.find_chunk-ids.ensures.1 ∙ e ∙ ap (λ (m : ℕ). w * m) (sym n)) in
    rw (eq-eqb _ _ a, ne_eqb _ _ b)

pub overflow_mul-size : goal.overflow_mul-size
overflow_mul-size c = omega (arith, times-most c.size.result 48 c.last_entry-count.result 4294967296 (omega (arith, c.size.ensures)) (omega arith))

pub returns-then-data-size : goal.returns-then-data-size
returns-then-data-size c = let x = c.args in
    let w = x.w in
    let n : c.last_entry-count.result ≡ graph_count x.graph.now = c.last_entry-count.ensures.0 ∙ count_at x.graph.now _ c.find_chunk-fan.ensures.0 in
    let a : chunk_size x.graph.now OIDF ≡ 1024 = sym c.find_chunk-fan.ensures.1 ∙ c.if-fan-ne1024.false in
    let b : chunk_size x.graph.now OIDL ≡ w * graph_count x.graph.now = sym c.find_chunk-ids.ensures.1 ∙ c.if-ids-w.false ∙ ap (λ (m : ℕ). w * m) n in
    let d : chunk_size x.graph.now CDAT ≡ row_size w * graph_count x.graph.now → ⊥ = λ e. c.if-data-size.true (c.find_chunk-data.ensures.1 ∙ e ∙ ap (λ (m : ℕ). row_size w * m) (sym n) ∙ ap (λ (m : ℕ). m * c.last_entry-count.result) (sym c.size.ensures)) in
    rw (eq-eqb _ _ a, eq-eqb _ _ b, ne_eqb _ _ d)

pub returns : goal.returns
returns c = let x = c.args in
    let w = x.w in
    let n : c.last_entry-count.result ≡ graph_count x.graph.now = c.last_entry-count.ensures.0 ∙ count_at x.graph.now _ c.find_chunk-fan.ensures.0 in
    let a : chunk_size x.graph.now OIDF ≡ 1024 = sym c.find_chunk-fan.ensures.1 ∙ c.if-fan-ne1024.false in
    let b : chunk_size x.graph.now OIDL ≡ w * graph_count x.graph.now = sym c.find_chunk-ids.ensures.1 ∙ c.if-ids-w.false ∙ ap (λ (m : ℕ). w * m) n in
    let d : chunk_size x.graph.now CDAT ≡ row_size w * graph_count x.graph.now = sym c.find_chunk-data.ensures.1 ∙ c.if-data-size.false ∙ ap (λ (m : ℕ). m * c.last_entry-count.result) c.size.ensures ∙ ap (λ (m : ℕ). row_size w * m) n in
    let f : c.find_chunk-edge.result.size ≡ chunk_size x.graph.now EDGE = c.find_chunk-edge.ensures.1 in
    rw (eq-eqb _ _ a, eq-eqb _ _ b, eq-eqb _ _ d, f)
