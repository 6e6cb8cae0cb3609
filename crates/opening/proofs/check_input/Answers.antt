-- `opening::check_input` meets its contract: each test decides as its case of `refusal` does. Assumes nothing.
use mathlib.Core.Path.{◌≡◌, sym, ◌∙◌, ap}
use mathlib.Core.Bool.{true, false}
use borrow.Author.Rules.{rules}
use borrow.Author.Tests.{not-true, not-false}
use Rattle.odb.specs.Store.{store_is_ok}
use Rattle.hash.specs.declared.Kind.{Kind}
use Rattle.hash.specs.Bytes.{width_of}
use Rattle.commitgraph.specs.Graph.{hash_version, graph_head, graph_ok}
use Rattle.walk.specs.declared.Settings.{Settings}
use Rattle.walk.specs.State.{is_empty}
use Rattle.walk.specs.Opening.{Input, sizes_ok, whole_ids}
use Rattle.opening.specs.Checks.{input_of, checked_of}
use Rattle.opening.proofs.Input.{by_size, by-lists, by-store, no-graph, by-head, by-graph, all-good, empty-yes, empty-not}
use Rattle.opening.proofs.check_input.Goals as goal

-- ---- what is lent, and what the tests that pass show of it
pub returns-then-not-sizes_fit : goal.returns-then-not-sizes_fit
returns-then-not-sizes_fit c = λ s e. sym (ap checked_of (by_size (input_of c.args.store.now c.args.graph.now c.args.tips.now c.args.hidden.now c.args.excluded.now s) (sym (c.sizes_fit.ensures s e) ∙ c.if-not-sizes_fit.true)))

pub returns-then-not-lists_whole : goal.returns-then-not-lists_whole
returns-then-not-lists_whole c =
    let fit : (s : Settings) → s.kind ≡ c.args.kind → sizes_ok (input_of c.args.store.now c.args.graph.now c.args.tips.now c.args.hidden.now c.args.excluded.now s) ≡ true = λ s e. sym (c.sizes_fit.ensures s e) ∙ c.if-not-sizes_fit.false in
    λ s e. sym (ap checked_of (by-lists (input_of c.args.store.now c.args.graph.now c.args.tips.now c.args.hidden.now c.args.excluded.now s) (fit s e) (sym (c.lists_whole.ensures c.args.store.now c.args.graph.now s e) ∙ c.if-not-lists_whole.true)))

pub returns-then-not-is_good : goal.returns-then-not-is_good
returns-then-not-is_good c =
    let fit : (s : Settings) → s.kind ≡ c.args.kind → sizes_ok (input_of c.args.store.now c.args.graph.now c.args.tips.now c.args.hidden.now c.args.excluded.now s) ≡ true = λ s e. sym (c.sizes_fit.ensures s e) ∙ c.if-not-sizes_fit.false in
    let whole : (s : Settings) → s.kind ≡ c.args.kind → whole_ids (input_of c.args.store.now c.args.graph.now c.args.tips.now c.args.hidden.now c.args.excluded.now s) ≡ true = λ s e. sym (c.lists_whole.ensures c.args.store.now c.args.graph.now s e) ∙ c.if-not-lists_whole.false in
    λ s e. sym (ap checked_of (by-store (input_of c.args.store.now c.args.graph.now c.args.tips.now c.args.hidden.now c.args.excluded.now s) (fit s e) (whole s e) (ap (λ (k : Kind). store_is_ok (width_of k) c.args.store.now) e ∙ sym c.is_good.ensures ∙ c.if-not-is_good.true)))

pub returns-then-graph-eq0 : goal.returns-then-graph-eq0
returns-then-graph-eq0 c =
    let fit : (s : Settings) → s.kind ≡ c.args.kind → sizes_ok (input_of c.args.store.now c.args.graph.now c.args.tips.now c.args.hidden.now c.args.excluded.now s) ≡ true = λ s e. sym (c.sizes_fit.ensures s e) ∙ c.if-not-sizes_fit.false in
    let whole : (s : Settings) → s.kind ≡ c.args.kind → whole_ids (input_of c.args.store.now c.args.graph.now c.args.tips.now c.args.hidden.now c.args.excluded.now s) ≡ true = λ s e. sym (c.lists_whole.ensures c.args.store.now c.args.graph.now s e) ∙ c.if-not-lists_whole.false in
    let good : (s : Settings) → s.kind ≡ c.args.kind → store_is_ok (width_of s.kind) c.args.store.now ≡ true = λ s e. ap (λ (k : Kind). store_is_ok (width_of k) c.args.store.now) e ∙ sym c.is_good.ensures ∙ c.if-not-is_good.false in
    λ s e. sym (ap checked_of (no-graph (input_of c.args.store.now c.args.graph.now c.args.tips.now c.args.hidden.now c.args.excluded.now s) (fit s e) (whole s e) (good s e) (empty-yes c.args.graph.now c.if-graph-eq0.true)))

pub returns-then-not-has_header : goal.returns-then-not-has_header
returns-then-not-has_header c =
    let fit : (s : Settings) → s.kind ≡ c.args.kind → sizes_ok (input_of c.args.store.now c.args.graph.now c.args.tips.now c.args.hidden.now c.args.excluded.now s) ≡ true = λ s e. sym (c.sizes_fit.ensures s e) ∙ c.if-not-sizes_fit.false in
    let whole : (s : Settings) → s.kind ≡ c.args.kind → whole_ids (input_of c.args.store.now c.args.graph.now c.args.tips.now c.args.hidden.now c.args.excluded.now s) ≡ true = λ s e. sym (c.lists_whole.ensures c.args.store.now c.args.graph.now s e) ∙ c.if-not-lists_whole.false in
    let good : (s : Settings) → s.kind ≡ c.args.kind → store_is_ok (width_of s.kind) c.args.store.now ≡ true = λ s e. ap (λ (k : Kind). store_is_ok (width_of k) c.args.store.now) e ∙ sym c.is_good.ensures ∙ c.if-not-is_good.false in
    let there : is_empty c.args.graph.now ≡ false = empty-not c.args.graph.now c.if-graph-eq0.false in
    λ s e. sym (ap checked_of (by-head (input_of c.args.store.now c.args.graph.now c.args.tips.now c.args.hidden.now c.args.excluded.now s) (fit s e) (whole s e) (good s e) there (ap (λ (k : Kind). graph_head (hash_version k) c.args.graph.now) e ∙ sym c.has_header.ensures ∙ c.if-not-has_header.true)))

pub returns-then-not-is_good-2 : goal.returns-then-not-is_good-2
returns-then-not-is_good-2 c =
    let fit : (s : Settings) → s.kind ≡ c.args.kind → sizes_ok (input_of c.args.store.now c.args.graph.now c.args.tips.now c.args.hidden.now c.args.excluded.now s) ≡ true = λ s e. sym (c.sizes_fit.ensures s e) ∙ c.if-not-sizes_fit.false in
    let whole : (s : Settings) → s.kind ≡ c.args.kind → whole_ids (input_of c.args.store.now c.args.graph.now c.args.tips.now c.args.hidden.now c.args.excluded.now s) ≡ true = λ s e. sym (c.lists_whole.ensures c.args.store.now c.args.graph.now s e) ∙ c.if-not-lists_whole.false in
    let good : (s : Settings) → s.kind ≡ c.args.kind → store_is_ok (width_of s.kind) c.args.store.now ≡ true = λ s e. ap (λ (k : Kind). store_is_ok (width_of k) c.args.store.now) e ∙ sym c.is_good.ensures ∙ c.if-not-is_good.false in
    let there : is_empty c.args.graph.now ≡ false = empty-not c.args.graph.now c.if-graph-eq0.false in
    let known : (s : Settings) → s.kind ≡ c.args.kind → graph_head (hash_version s.kind) c.args.graph.now ≡ true = λ s e. ap (λ (k : Kind). graph_head (hash_version k) c.args.graph.now) e ∙ sym c.has_header.ensures ∙ c.if-not-has_header.false in
    λ s e. sym (ap checked_of (by-graph (input_of c.args.store.now c.args.graph.now c.args.tips.now c.args.hidden.now c.args.excluded.now s) (fit s e) (whole s e) (good s e) there (known s e) (ap (λ (k : Kind). graph_ok (width_of k) c.args.graph.now) e ∙ sym c.is_good-2.ensures ∙ c.if-not-is_good-2.true)))

pub returns : goal.returns
returns c =
    let fit : (s : Settings) → s.kind ≡ c.args.kind → sizes_ok (input_of c.args.store.now c.args.graph.now c.args.tips.now c.args.hidden.now c.args.excluded.now s) ≡ true = λ s e. sym (c.sizes_fit.ensures s e) ∙ c.if-not-sizes_fit.false in
    let whole : (s : Settings) → s.kind ≡ c.args.kind → whole_ids (input_of c.args.store.now c.args.graph.now c.args.tips.now c.args.hidden.now c.args.excluded.now s) ≡ true = λ s e. sym (c.lists_whole.ensures c.args.store.now c.args.graph.now s e) ∙ c.if-not-lists_whole.false in
    let good : (s : Settings) → s.kind ≡ c.args.kind → store_is_ok (width_of s.kind) c.args.store.now ≡ true = λ s e. ap (λ (k : Kind). store_is_ok (width_of k) c.args.store.now) e ∙ sym c.is_good.ensures ∙ c.if-not-is_good.false in
    let there : is_empty c.args.graph.now ≡ false = empty-not c.args.graph.now c.if-graph-eq0.false in
    let known : (s : Settings) → s.kind ≡ c.args.kind → graph_head (hash_version s.kind) c.args.graph.now ≡ true = λ s e. ap (λ (k : Kind). graph_head (hash_version k) c.args.graph.now) e ∙ sym c.has_header.ensures ∙ c.if-not-has_header.false in
    λ s e. sym (ap checked_of (all-good (input_of c.args.store.now c.args.graph.now c.args.tips.now c.args.hidden.now c.args.excluded.now s) (fit s e) (whole s e) (good s e) there (known s e) (ap (λ (k : Kind). graph_ok (width_of k) c.args.graph.now) e ∙ sym c.is_good-2.ensures ∙ c.if-not-is_good-2.false)))
