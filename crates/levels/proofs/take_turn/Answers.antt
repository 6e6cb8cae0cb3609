-- `levels::take_turn` meets its contract: each way out of the turn is one law of the search. Assumes nothing.
use mathlib.Core.Path.{refl, sym, ◌∙◌}
use Prim.Native.Nat.{◌%◌}
use borrow.Author.Tests.{ltb-true, ltb-false}
use Rattle.hash.specs.Bytes.{width_of}
use Rattle.levels.specs.StoreGraph.{store_graph}
use Rattle.levels.proofs.Turning.{turns-crowded, turns-absent, turns_down, turns-cycle, turns-step, turns-end}
use Rattle.levels.proofs.take_turn.Goals as goal

pub next_root-requires : goal.next_root-requires
next_root-requires c = (c.requires.0, c.requires.1, c.if-n-top.true)

pub returns-then-n-top : goal.returns-then-n-top
returns-then-n-top c = let x = c.args in
    c.next_root.ensures (store_graph (width_of x.kind) x.store.now x.n) refl

pub returns-then-j-ge256 : goal.returns-then-j-ge256
returns-then-j-ge256 c = let x = c.args in
    let g = store_graph (width_of x.kind) x.store.now x.n in
    turns-crowded g x.levels.now x.top x.root c.if-n-top.false c.word-v.result c.word-v.ensures.0 c.requires.1 c.requires.0 (λ h. ltb-true (c.word-v.result % 512) (g.count x.top) (sym (c.has_parent.ensures h) ∙ c.if-has_parent.true)) c.if-j-ge256.true

pub returns-then-n-p : goal.returns-then-n-p
returns-then-n-p c = let x = c.args in
    let g = store_graph (width_of x.kind) x.store.now x.n in
    turns-absent g x.levels.now x.top x.root c.if-n-top.false c.word-v.result c.word-v.ensures.0 c.requires.1 c.requires.0 c.parent_at-p.result (λ h. ltb-true (c.word-v.result % 512) (g.count x.top) (sym (c.has_parent.ensures h) ∙ c.if-has_parent.true)) (c.parent_at-p.ensures c.requires.2 c.if-j-ge256.false) c.if-n-p.true

pub returns-then-w-lt1 : goal.returns-then-w-lt1
returns-then-w-lt1 c = let x = c.args in
    let g = store_graph (width_of x.kind) x.store.now x.n in
    turns_down g x.levels.now x.top x.root c.if-n-top.false c.word-v.result c.word-v.ensures.0 c.requires.1 c.requires.0 c.parent_at-p.result (λ h. ltb-true (c.word-v.result % 512) (g.count x.top) (sym (c.has_parent.ensures h) ∙ c.if-has_parent.true)) (c.parent_at-p.ensures c.requires.2 c.if-j-ge256.false) c.if-n-p.false _ c.word-w.ensures.0 _ c.if-w-lt1.true c.put.ensures

pub returns-then-w-lt-TAG : goal.returns-then-w-lt-TAG
returns-then-w-lt-TAG c = let x = c.args in
    let g = store_graph (width_of x.kind) x.store.now x.n in
    turns-cycle g x.levels.now x.top x.root c.if-n-top.false c.word-v.result c.word-v.ensures.0 c.requires.1 c.requires.0 c.parent_at-p.result (λ h. ltb-true (c.word-v.result % 512) (g.count x.top) (sym (c.has_parent.ensures h) ∙ c.if-has_parent.true)) (c.parent_at-p.ensures c.requires.2 c.if-j-ge256.false) c.if-n-p.false _ c.word-w.ensures.0 c.if-w-lt1.false c.if-w-lt-TAG.true

pub returns-then-has_parent : goal.returns-then-has_parent
returns-then-has_parent c = let x = c.args in
    let g = store_graph (width_of x.kind) x.store.now x.n in
    turns-step g x.levels.now x.top x.root c.if-n-top.false c.word-v.result c.word-v.ensures.0 c.requires.1 c.requires.0 c.parent_at-p.result (λ h. ltb-true (c.word-v.result % 512) (g.count x.top) (sym (c.has_parent.ensures h) ∙ c.if-has_parent.true)) (c.parent_at-p.ensures c.requires.2 c.if-j-ge256.false) c.if-n-p.false _ c.word-w.ensures.0 _ c.if-j-ge256.false c.if-w-lt-TAG.false c.put-then-has_parent.ensures

pub greatest-m-requires : goal.greatest-m-requires
greatest-m-requires c = c.requires.2

pub returns : goal.returns
returns c = let x = c.args in
    let g = store_graph (width_of x.kind) x.store.now x.n in
    turns-end g x.levels.now x.top x.root c.if-n-top.false c.word-v.result c.word-v.ensures.0 c.requires.1 c.requires.0 _ c.greatest-m.result _ (λ h. ltb-false (c.word-v.result % 512) (g.count x.top) (sym (c.has_parent.ensures h) ∙ c.if-has_parent.false)) c.greatest-m.ensures.is c.back_of.ensures c.put-2.ensures
