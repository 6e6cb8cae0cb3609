-- What `find` answers, from what the two lookups answer: a row where the graph has one, else what the store has. Assumes nothing.
use Rattle.std.specs.Prelude.{None, Option, Some}
use Prim.Native.Nat.{ℕ, ◌≤◌, ◌<◌}
use mathlib.Core.Path.{◌≡◌, refl, sym, ◌∙◌, ap}
use mathlib.Core.Bool.{true}
use mathlib.Core.List.{List}
use native.Mathlib.Omega.{arith}
use lib.ListN.{length}
use Rattle.hash.specs.Bytes.{Id}
use Rattle.odb.specs.Lookup.{Locates, located_of}
use Rattle.odb.specs.Store.{find_entry}
use Rattle.odb.specs.declared.Located.{Located}
use Rattle.odb.specs.declared.Located.TheVariants.{Body, Absent as Nowhere}
use Rattle.commitgraph.specs.Graph.{graph_find, layout_of, Looks, position_of}
use Rattle.commitgraph.specs.declared.Layout.{Layout}
use Rattle.commitgraph.proofs.RowsFind.{looks_torn}
use Rattle.commit.specs.Find.{GoodCache, BareCache, row_of, in_graph, in_store, found_in, found_among, FindsCommit}
use Rattle.commit.specs.declared.Either.{Either}
use Rattle.commit.specs.declared.Either.TheVariants.{CachedCommit, CommitRefIter, Absent}

-- a position that the graph's lookup found
position_at : (o : Option ℕ) (p : ℕ) → Some p ≡ position_of o → o ≡ Some p
position_at None p e = let z : ◌≡◌ {A = ℕ} 0 1 = cc in absurd (omega arith)
position_at (Some q) p e = cc

position-none : (o : Option ℕ) → None ≡ position_of o → o ≡ None
position-none None e = refl
position-none (Some q) e = let z : ◌≡◌ {A = ℕ} 0 1 = cc in absurd (omega arith)

not_listed : {X : Type 0} {q : Option ℕ} (p : ℕ) → q ≡ Some p → q ≡ None → X
not_listed p e f = let z : ◌≡◌ {A = ℕ} 0 1 = cc in absurd (omega arith)

-- the graph lists it
pub by_row : {w : ℕ} {g : List ℕ} {l : Layout} {x : Id} {q : Option ℕ} (s : List ℕ) (p : ℕ) → Looks w g l x q → q ≡ Some p → FindsCommit w (Some l) g s x (in_graph w g l p)
unfolding GoodCache BareCache found_in found_among row_of
by_row {w} {g} {l} {x} {q} s p k e = record {
  good = λ _ c. rw (found c) (ap (λ (m : Layout). in_graph w g m p) c.1);
  rises = λ _ c. rw (found c) (ap (λ (m : Layout). in_graph w g m p) c.1);
  inside = λ a b f. let z : ◌≡◌ {A = ℕ} 0 1 = cc in absurd (omega arith);
  stored = λ a b f. let z : ◌≡◌ {A = ℕ} 0 1 = cc in absurd (omega arith);
  listed = λ r a b f. let i : p ≡ r = cc in let h = k.hit r (e ∙ ap Some i) in (l, refl, h.0, h.1, cc, cc);
  torn = λ _ c. not_listed p e (looks_torn q k c);
  foreign = λ n. not_listed p e (k.foreign n);
}
  where
    found : GoodCache w (Some l) g → graph_find w g x ≡ Some p
    found c = position_at (graph_find w g x) p (sym e ∙ k.right c.0 c.1)

-- what the store's lookup found, where no row stands before it
module _ (w : ℕ) (c : Option Layout) (g s : List ℕ) (x : Id) (none_before : GoodCache w c g → row_of w c g x ≡ None) where
  stored : (o : Located) → Locates w s x o → FindsCommit w c g s x (in_store o)
  unfolding found_in found_among
  stored (Body a b) k = record {
    good = λ h t. rw (none_before t) (ap in_store (k.good h));
    rises = λ h t. rw (none_before t) (ap in_store (k.rises h));
    inside = λ d e f. k.inside d e (same d e f);
    stored = λ d e f. k.hit d e (same d e f);
    listed = λ p d e f. let z : ◌≡◌ {A = ℕ} 0 1 = cc in absurd (omega arith);
    torn = λ t _. ap in_store (k.torn t);
    foreign = λ n. ap in_store (k.foreign n);
  }
    where
      same : (d e : ℕ) → CommitRefIter a b ≡ CommitRefIter d e → Body a b ≡ Body d e
      same d e f = let i : a ≡ d = cc in let j : b ≡ e = cc in cc
  stored Nowhere k = record {
    good = λ h t. rw (none_before t) (ap in_store (k.good h));
    rises = λ h t. rw (none_before t) (ap in_store (k.rises h));
    inside = λ d e f. let z : ◌≡◌ {A = ℕ} 0 1 = cc in absurd (omega arith);
    stored = λ d e f. let z : ◌≡◌ {A = ℕ} 0 1 = cc in absurd (omega arith);
    listed = λ p d e f. let z : ◌≡◌ {A = ℕ} 0 1 = cc in absurd (omega arith);
    torn = λ t _. refl;
    foreign = λ n. refl;
  }

-- the graph does not list it
pub past-graph : {w : ℕ} {g : List ℕ} {l : Layout} {x : Id} {q : Option ℕ} (s : List ℕ) (o : Located) → Looks w g l x q → q ≡ None → Locates w s x o → FindsCommit w (Some l) g s x (in_store o)
unfolding GoodCache row_of
past-graph {w} {g} {l} {x} s o k e t = stored w (Some l) g s x (λ c. position-none (graph_find w g x) (sym e ∙ k.right c.0 c.1)) o t

-- no graph is used
pub without-graph : {w : ℕ} (g s : List ℕ) {x : Id} (o : Located) → Locates w s x o → FindsCommit w None g s x (in_store o)
unfolding row_of
without-graph {w} g s {x} o t = stored w None g s x (λ c. refl) o t
