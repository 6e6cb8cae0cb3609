-- `ahead::words_at` meets its contract: each part is the words of its own function. Assumes nothing.
use mathlib.Core.Path.{ap, ◌∙◌}
use mathlib.Core.List.{List}
use Prim.Native.Nat.{ℕ, ◌+◌}
use lib.Bits.{bit_xor}
use Rattle.hash.specs.Bytes.{Id, u32_at, width_of}
use Rattle.commitgraph.specs.Graph.{id_in}
use Rattle.tested.specs.Ahead.{near_at, start_of, home_words, row_words}
use Rattle.tested.proofs.ahead.words_at.Goals as goal

pub returns : goal.returns
returns c = let x = c.args in
    let next = c.parent-next.ensures in
    let home = c.home_words-home.ensures ∙ ap (λ (s : ℕ). home_words x.marks.now x.line.now s) (c.start_of-start.ensures ∙ ap (λ (y : Id). start_of y x.cap) c.id_at.ensures) in
    let place = c.place_words-place.ensures in
    let body = c.body_words-body.ensures in
    let row = c.row_words-row.ensures ∙ ap (λ (q : ℕ). row_words (width_of x.kind) x.graph.now x.l x.store.now q) (c.near_after-two.ensures ∙ ap (λ (q : ℕ). near_at x.line.now x.from x.n (x.k + 2) q) next) in
    let id = c.be32.ensures ∙ ap (λ (y : List ℕ). u32_at y 0) (c.id_at-2.ensures ∙ ap (λ (q : ℕ). id_in (width_of x.kind) x.graph.now x.l q) next) in
    λ i. bit_xor (bit_xor (bit_xor (home i) (place i)) (bit_xor (body i) (row i))) (id i)
