-- What the two files say of an id through the cache: a kept graph says what the walk's world says, and what `find` finds is the row or the
-- body that the world has. Assumes nothing.
use Rattle.std.specs.Prelude.{None, Option, Some}
use mathlib.Core.Path.{◌≡◌, refl, sym, ◌∙◌, ap}
use Prim.Native.Nat.{ℕ}
use mathlib.Core.Bool.{Bool, true, false, ◌||◌}
use mathlib.Core.List.{List, [], ◌∷◌}
use native.Mathlib.Omega.{arith}
use lib.ListN.{length}
use Rattle.hash.specs.Bytes.{Id, at, if_some}
use Rattle.object.specs.Header.{header}
use Rattle.odb.specs.Store.{store_is_ok, body_start, body_end, body, find_entry, store_find}
use Rattle.odb.specs.Lookup.{Locates, located_of, option_of, TriesFind, part_of}
use Rattle.odb.specs.declared.Located.{Located}
use Rattle.odb.specs.declared.Located.TheVariants.{Body, Absent as Nowhere}
use Rattle.odb.proofs.Bodies.{start-end, end-within}
use Rattle.odb.proofs.Entries.{entry-hit}
use Rattle.odb.proofs.Lookup.{part_of-yes}
use Rattle.commitgraph.specs.Graph.{graph_ok, layout_of, row_start, row_end}
use Rattle.commitgraph.specs.declared.Layout.{Layout}
use Rattle.commit.specs.Find.{GoodCache, row_of, in_graph, in_store, found_in}
use Rattle.commit.specs.declared.Either.{Either}
use Rattle.commit.specs.declared.Either.TheVariants.{CachedCommit, CommitRefIter, Absent}
use Rattle.walk.specs.Lookup.{no_row, row_at, world_of}
use Rattle.walk.specs.State.{is_empty}
use Rattle.walk.proofs.Rows.{find_nil}
use Rattle.reading.specs.Files.{cache_with, cache_of, layout_under, world_under}

-- ---- the cache

pub cache-dropped : (g : List ℕ) (l : Layout) (kept : Bool) → kept ≡ false → None ≡ cache_with g l kept
unfolding cache_with
cache-dropped g l kept e = rw e

pub cache-empty : (g : List ℕ) (l : Layout) (kept : Bool) → length g ≡ 0 → kept ≡ true → None ≡ cache_with g l kept
unfolding cache_with is_empty
cache-empty [] l kept h e = rw e
cache-empty (x ∷ g) l kept h e = absurd (omega arith)

pub cache_used : (g : List ℕ) (l : Layout) (kept : Bool) → (length g ≡ 0 → ⊥) → kept ≡ true → Some l ≡ cache_with g l kept
unfolding cache_with is_empty
cache_used [] l kept h e = absurd (h refl)
cache_used (x ∷ g) l kept h e = rw e

-- an empty or a good file is used well
pub good-cache : (w : ℕ) (g : List ℕ) (kept : Bool) → (is_empty g || graph_ok w g) ≡ true → GoodCache w (cache_of w g kept) g
unfolding cache_with GoodCache is_empty
good-cache w g false e = tt
good-cache w [] true e = tt
good-cache w (x ∷ g) true e = (e, refl)

-- ---- the world

-- a zero-length graph has no rows
pub nil_world : (w : ℕ) (s : List ℕ) (x : Id) → (world_of w s []).graph x ≡ no_row
unfolding world_of
nil_world w s x = rw (find_nil w x)

-- a graph that is kept: the walk's world
pub kept-world : (w : ℕ) (g s : List ℕ) → world_under w (cache_of w g true) g s ≡ world_of w s g
unfolding cache_with is_empty world_under
kept-world w [] s = λ k. record { graph = λ x. sym (nil_world w s x) k; store = (world_of w s []).store }
kept-world w (x ∷ g) s = refl

-- one that was dropped: no rows, and the same store
pub dropped-world : (w : ℕ) (g s : List ℕ) (x : Id) → (world_under w (cache_of w g false) g s).graph x ≡ no_row
unfolding cache_with world_under
dropped-world w g s x = refl

pub same_store : (w : ℕ) (c : Option Layout) (g s : List ℕ) (x : Id) → (world_under w c g s).store x ≡ (world_of w s g).store x
unfolding world_under
same_store w (Some l) g s x = refl
same_store w None g s x = refl

pub graph-under : (w : ℕ) (c : Option Layout) (g s : List ℕ) (x : Id) → (world_under w c g s).graph x ≡ if_some (row_of w c g x) no_row (λ p. row_at w g p)
unfolding world_under world_of row_of
graph-under w (Some l) g s x = refl
graph-under w None g s x = refl

-- ---- the store

-- a body that the store's lookup names is the body under the id
pub body-stored : (w : ℕ) (s : List ℕ) → store_is_ok w s ≡ true → (g : List ℕ) (x : Id) (a e : ℕ) → Body a e ≡ located_of w s (find_entry w s x) → (world_of w s g).store x ≡ Some (header w (part_of s (Body a e)))
unfolding world_of store_find body at
body-stored w s ok g x a e f = go (find_entry w s x) refl f
  where
    go : (o : Option ℕ) → find_entry w s x ≡ o → Body a e ≡ located_of w s o → (world_of w s g).store x ≡ Some (header w (part_of s (Body a e)))
    go None k f' = let z : ◌≡◌ {A = ℕ} 0 1 = cc in absurd (omega arith)
    go (Some j) k f' =
        let h = (entry-hit w s x j k).0 in
        let u : a ≡ body_start w s j = cc in
        let v : e ≡ body_end w s j = cc in
        rw (k, u, v) (ap (λ (b : List ℕ). Some (header w b)) (part_of-yes s (body_start w s j) (body_end w s j) (start-end w s ok j h) (end-within w s ok j h)))

pub not-stored : (w : ℕ) (s g : List ℕ) (x : Id) → Nowhere ≡ located_of w s (find_entry w s x) → (world_of w s g).store x ≡ None
unfolding world_of store_find
not-stored w s g x f = go (find_entry w s x) refl f
  where
    go : (o : Option ℕ) → find_entry w s x ≡ o → Nowhere ≡ located_of w s o → (world_of w s g).store x ≡ None
    go None k f' = rw k
    go (Some j) k f' = let z : ◌≡◌ {A = ℕ} 0 1 = cc in absurd (omega arith)

-- the same of what `locate` answers
pub located_body : {w : ℕ} {s : List ℕ} {x : Id} {o : Located} {b : List ℕ} (g : List ℕ) (a e : ℕ) → Locates w s x o → o ≡ Body a e → b ≡ part_of s (Body a e) → store_is_ok w s ≡ true
    → (world_of w s g).store x ≡ Some (header w b)
located_body {w} {s} {x} g a e l p f ok = body-stored w s ok g x a e (sym p ∙ l.good ok) ∙ ap (λ (c : List ℕ). Some (header w c)) (sym f)

pub located_none : {w : ℕ} {s : List ℕ} {x : Id} {o : Located} (g : List ℕ) → Locates w s x o → o ≡ Nowhere → store_is_ok w s ≡ true → (world_of w s g).store x ≡ None
located_none {w} {s} {x} g l p ok = not-stored w s g x (sym p ∙ l.good ok)

-- and of what `try_find` answers, the body itself
module _ {w : ℕ} {s : List ℕ} {x : Id} {f : Bool} {b : List ℕ} (g : List ℕ) (l : TriesFind w s x f b) where
  pub tried-body : f ≡ true → store_is_ok w s ≡ true → (world_of w s g).store x ≡ Some (header w b)
  unfolding world_of
  tried-body p ok = ap (λ (o : Option (List ℕ)). if_some o None (λ c. Some (header w c))) (sym (l.good ok) ∙ ap (λ (t : Bool). option_of t b) p)

  pub tried-none : f ≡ false → store_is_ok w s ≡ true → (world_of w s g).store x ≡ None
  unfolding world_of
  tried-none p ok = ap (λ (o : Option (List ℕ)). if_some o None (λ c. Some (header w c))) (sym (l.good ok) ∙ ap (λ (t : Bool). option_of t b) p)

-- ---- what `find` finds

in_store-body : (o : Located) (a e : ℕ) → in_store o ≡ CommitRefIter a e → Body a e ≡ o
in_store-body (Body a' e') a e f = let u : a ≡ a' = cc in let v : e ≡ e' = cc in cc
in_store-body Nowhere a e f = let z : ◌≡◌ {A = ℕ} 0 1 = cc in absurd (omega arith)

in_store-absent : (o : Located) → in_store o ≡ Absent → Nowhere ≡ o
in_store-absent (Body a e) f = let z : ◌≡◌ {A = ℕ} 0 1 = cc in absurd (omega arith)
in_store-absent Nowhere f = refl

in_store-row : (o : Located) (p a b : ℕ) → in_store o ≡ CachedCommit p a b → ⊥
in_store-row (Body d e) p a b f = let z : ◌≡◌ {A = ℕ} 0 1 = cc in absurd (omega arith)
in_store-row Nowhere p a b f = let z : ◌≡◌ {A = ℕ} 0 1 = cc in absurd (omega arith)

-- a row that was found: the file is a good one, read by its own layout
pub record RowFound (w : ℕ) (c : Option Layout) (g s : List ℕ) (x : Id) (p : ℕ) : Type 0 where
  pub file : graph_ok w g ≡ true
  pub layout : layout_under c ≡ layout_of w g
  pub says : (world_under w c g s).graph x ≡ row_at w g p

listed : (w : ℕ) (c : Option Layout) (g : List ℕ) (x : Id) (p : ℕ) → GoodCache w c g → row_of w c g x ≡ Some p → (graph_ok w g ≡ true) × (layout_under c ≡ layout_of w g)
unfolding GoodCache row_of
listed w (Some l) g x p t e = t
listed w None g x p t e = let z : ◌≡◌ {A = ℕ} 0 1 = cc in absurd (omega arith)

pub row-found : (w : ℕ) (c : Option Layout) (g s : List ℕ) (x : Id) (p : ℕ) → GoodCache w c g → row_of w c g x ≡ Some p → RowFound w c g s x p
row-found w c g s x p t e =
    let l = listed w c g x p t e in
    record { file = l.0; layout = l.1; says = graph-under w c g s x ∙ ap (λ (o : Option ℕ). if_some o no_row (λ q. row_at w g q)) e }

module _ (w : ℕ) (c : Option Layout) (g s : List ℕ) (x : Id) where
  pub found-row : (p a b : ℕ) → GoodCache w c g → found_in w c g s x ≡ CachedCommit p a b → RowFound w c g s x p
  unfolding found_in
  found-row p a b t f = row-found w c g s x p t (go (row_of w c g x) f)
    where
      go : (o : Option ℕ) → if_some o (in_store (located_of w s (find_entry w s x))) (in_graph w g (layout_of w g)) ≡ CachedCommit p a b → o ≡ Some p
      go None f' = absurd (in_store-row (located_of w s (find_entry w s x)) p a b f')
      go (Some q) f' = let i : q ≡ p = cc in ap Some i

  -- no row stands before what the store has
  past_row : (e : Either) → ((p a b : ℕ) → CachedCommit p a b ≡ e → ⊥) → found_in w c g s x ≡ e → ((world_under w c g s).graph x ≡ no_row) × (in_store (located_of w s (find_entry w s x)) ≡ e)
  unfolding found_in
  past_row e n f = go (row_of w c g x) refl f
    where
      go : (o : Option ℕ) → row_of w c g x ≡ o → if_some o (in_store (located_of w s (find_entry w s x))) (in_graph w g (layout_of w g)) ≡ e
          → ((world_under w c g s).graph x ≡ no_row) × (in_store (located_of w s (find_entry w s x)) ≡ e)
      go None k f' = (graph-under w c g s x ∙ ap (λ (o : Option ℕ). if_some o no_row (λ q. row_at w g q)) k, f')
      go (Some p) k f' = absurd (n p (row_start w g (layout_of w g) p) (row_end w g (layout_of w g) p) f')

  pub found-body : (a e : ℕ) → store_is_ok w s ≡ true → found_in w c g s x ≡ CommitRefIter a e
      → ((world_under w c g s).graph x ≡ no_row) × ((world_under w c g s).store x ≡ Some (header w (part_of s (Body a e))))
  found-body a e ok f =
      let r = past_row (CommitRefIter a e) (λ p d b k. let z : ◌≡◌ {A = ℕ} 0 1 = cc in absurd (omega arith)) f in
      (r.0, same_store w c g s x ∙ body-stored w s ok g x a e (in_store-body (located_of w s (find_entry w s x)) a e r.1))

  pub found-absent : found_in w c g s x ≡ Absent → ((world_under w c g s).graph x ≡ no_row) × ((world_under w c g s).store x ≡ None)
  found-absent f =
      let r = past_row Absent (λ p d b k. let z : ◌≡◌ {A = ℕ} 0 1 = cc in absurd (omega arith)) f in
      (r.0, same_store w c g s x ∙ not-stored w s g x (in_store-absent (located_of w s (find_entry w s x)) r.1))
