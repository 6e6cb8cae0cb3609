-- What `part` and its two arms give of an answer of `find`: the row of the commit-graph file, or the body in the commit store. The row's place
-- is cut off at the end of the file, as the row itself is. Assumes nothing.
use Rattle.std.specs.Prelude.{Option, Some}
use Prim.Native.Nat.{ℕ, ◌+◌, ◌*◌, ◌≤◌}
use mathlib.Core.Path.{◌≡◌, refl, sym, ◌∙◌, ap}
use mathlib.Core.List.{List}
use lib.ListN.{length}
use Rattle.hash.specs.Bytes.{Id, at}
use Rattle.odb.specs.Store.{body, body_start, body_end}
use Rattle.odb.specs.Lookup.{located_of, Under, part_of as partOfStore}
use Rattle.odb.specs.declared.Located.TheVariants.{Body}
use Rattle.odb.proofs.Lookup.{part_of-yes}
use Rattle.commitgraph.specs.Graph.{row_size, row_in, row_start, row_end}
use Rattle.commitgraph.specs.declared.Layout.{Layout}
use Rattle.commitgraph.proofs.RowsPlace.{at-ends}
use Rattle.commit.specs.Find.{in_graph, in_store, FindsCommit, from_to, part_in_store, part_of}
use Rattle.commit.specs.declared.Either.{Either}
use Rattle.commit.specs.declared.Either.TheVariants.{CachedCommit, CommitRefIter}

-- the part that a row's answer names is the row
pub part-row : (w : ℕ) (g s : List ℕ) (l : Layout) (p : ℕ) → part_of (in_graph w g l p) g s ≡ row_in w g l p
unfolding part_of row_start row_end row_in
part-row w g s l p = at-ends g (l.rows + row_size w * p) (row_size w)

-- the part that an entry's answer names is its body
pub part_body : (w : ℕ) (g s : List ℕ) (k : ℕ) → part_of (in_store (located_of w s (Some k))) g s ≡ body w s k
unfolding part_of body
part_body w g s k = refl

-- a part of the store is the one that the store itself gives
pub part-store : (g s : List ℕ) (a e : ℕ) → a ≤ e → e ≤ length s → part_of (CommitRefIter a e) g s ≡ partOfStore s (Body a e)
unfolding part_of at
part-store g s a e h k = part_of-yes s a e h k

module _ {w : ℕ} {c : Option Layout} {g s : List ℕ} {x : Id} {r : Either} (f : FindsCommit w c g s x r) where
  -- a row that was found: its part is the row of the cache's layout
  pub found-row : (p a e : ℕ) → r ≡ CachedCommit p a e → (l : Layout) × (c ≡ Some l) × (part_of (CachedCommit p a e) g s ≡ row_in w g l p)
  unfolding part_of
  found-row p a e q =
      let t = f.listed p a e q in
      (t.0, t.1, ap (λ (i : ℕ). from_to g i e) t.4 ∙ ap (from_to g (row_start w g t.0 p)) t.5 ∙ part-row w g s t.0 p)

  -- a body that was found: its part is the body of an entry under the id
  pub found-body : (a e : ℕ) → r ≡ CommitRefIter a e → (k : ℕ) × Under w s x k × (part_of (CommitRefIter a e) g s ≡ body w s k)
  unfolding part_of
  found-body a e q =
      let t = f.stored a e q in
      (t.0, t.1, ap (λ (i : ℕ). from_to s i e) t.2 ∙ ap (from_to s (body_start w s t.0)) t.3 ∙ part_body w g s t.0)

  -- a body that was found: the slice of it is the one that the store itself gives, since what is found lies inside the store
  pub found-slice : (a e : ℕ) → r ≡ CommitRefIter a e → part_in_store (CommitRefIter a e) s ≡ partOfStore s (Body a e)
  unfolding part_in_store part_of
  found-slice a e q = let i = f.inside a e q in part-store g s a e i.0 i.1
