-- Lookup (document 01): "As in `find`, the graph comes before the book; a lookup hands back a part of the graph file or of the book."
-- Ids are w bytes wide. Assumes nothing.
use Rattle.std.specs.Prelude.{ℕ, ◌+◌, ◌-◌, ◌≤◌, ◌<◌, ◌≡◌, true, false, List, [], length, None, Option, Some}
use Rattle.hash.specs.Bytes.{Id, at, if_some}
use Rattle.odb.specs.Store.{body_start, body_end, standing, store_is_ok, find_entry}
use Rattle.odb.specs.Lookup.{located_of, ids_rise, looked_up, Under}
use Rattle.odb.specs.declared.Located.{Located}
use Rattle.odb.specs.declared.Located.TheVariants.{Body, Absent as Nowhere}
use Rattle.commitgraph.specs.Graph.{graph_ok, graph_find, layout_of, id_in, row_start, row_end}
use Rattle.commitgraph.specs.declared.Layout.{Layout}
use Rattle.commit.specs.declared.Either.{Either}
use Rattle.commit.specs.declared.Either.TheVariants.{CachedCommit, CommitRefIter, Absent}

-- a commit-graph file that is used is a good one, and its chunks stand where the layout says
unfoldable pub GoodCache : ℕ → Option Layout → List ℕ → Type 0
GoodCache w (Some l) g = (graph_ok w g ≡ true) × (l ≡ layout_of w g)
GoodCache w None g = Unit {0}

-- no id stands in the commit-graph file, or none is used
unfoldable pub BareCache : ℕ → Option Layout → List ℕ → Type 0
BareCache w (Some l) g = length g < l.ids + w
BareCache w None g = Unit {0}

-- the position of an id in the commit-graph file, where one is used
unfoldable pub row_of : ℕ → Option Layout → List ℕ → Id → Option ℕ
row_of w (Some l) g x = graph_find w g x
row_of w None g x = None

-- a row of the graph, as an answer
abbrev pub in_graph : ℕ → List ℕ → Layout → ℕ → Either
in_graph w g l p = CachedCommit p (row_start w g l p) (row_end w g l p)

-- what the store has, as an answer
abbrev pub in_store : Located → Either
in_store (Body s e) = CommitRefIter s e
in_store Nowhere = Absent

-- "the graph comes before the book"
unfoldable pub found_in : ℕ → Option Layout → List ℕ → List ℕ → Id → Either
found_in w c g s x = if_some (row_of w c g x) (in_store (located_of w s (find_entry w s x))) (in_graph w g (layout_of w g))

-- the same in a store of which only the ids are known to rise
unfoldable pub found_among : ℕ → Option Layout → List ℕ → List ℕ → Id → Either
found_among w c g s x = if_some (row_of w c g x) (in_store (looked_up w s x)) (in_graph w g (layout_of w g))

-- what `find` answers for the id x. On good files what they have. On any bytes a row that is found is one of the cache's layout, with the id
-- x, and its place is the row's; a body that is found is that of an entry under x, and a part of the store; and nothing is found where
-- nothing stands or x has another width. (Among ids that do not rise one may be missed: which, is not said.)
pub record FindsCommit (w : ℕ) (c : Option Layout) (g s : List ℕ) (x : Id) (r : Either) : Type 0 where
  pub good : store_is_ok w s ≡ true → GoodCache w c g → r ≡ found_in w c g s x
  pub rises : ids_rise w s ≡ true → GoodCache w c g → r ≡ found_among w c g s x
  pub inside : (a e : ℕ) → r ≡ CommitRefIter a e → (a ≤ e) × (e ≤ length s)
  pub stored : (a e : ℕ) → r ≡ CommitRefIter a e → (k : ℕ) × Under w s x k × (a ≡ body_start w s k) × (e ≡ body_end w s k)
  pub listed : (p a e : ℕ) → r ≡ CachedCommit p a e
      → (l : Layout) × (c ≡ Some l) × (p < l.count) × (id_in w g l p ≡ x) × (a ≡ row_start w g l p) × (e ≡ row_end w g l p)
  pub torn : standing w s ≡ false → BareCache w c g → r ≡ Absent
  pub foreign : (length x ≡ w → ⊥) → r ≡ Absent

-- the bytes of a file from one place up to another, cut to what stands in it
abbrev pub from_to : List ℕ → ℕ → ℕ → List ℕ
from_to b a e = at b a (e - a)

-- the row of the commit-graph file that an answer names, empty where it names none there
unfoldable pub part_in_graph : Either → List ℕ → List ℕ
part_in_graph (CachedCommit p a e) g = from_to g a e
part_in_graph (CommitRefIter a e) g = []
part_in_graph Absent g = []

-- the body in the commit store that an answer names, likewise
unfoldable pub part_in_store : Either → List ℕ → List ℕ
part_in_store (CachedCommit p a e) s = []
part_in_store (CommitRefIter a e) s = from_to s a e
part_in_store Absent s = []

-- the part of the file that an answer names, empty where it names none
unfoldable pub part_of : Either → List ℕ → List ℕ → List ℕ
part_of (CachedCommit p a e) g s = from_to g a e
part_of (CommitRefIter a e) g s = from_to s a e
part_of Absent g s = []

unfoldable pub find_all : Unit {0}
unfolding GoodCache BareCache row_of found_in found_among part_in_graph part_in_store part_of
find_all = tt
